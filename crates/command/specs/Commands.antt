-- The command words of a script, as two tables.
-- Assumes nothing.
use Rattle.std.specs.Prelude.{ℕ, Bool, true, false, ◌&&◌, cond, List, [], ◌∷◌, eqb, Option, Some, None}
use Rattle.command.specs.Bytes.{bytes_of}
use Rattle.command.specs.declared.Command.{Command}
use Rattle.command.specs.declared.Command.TheVariants.{Rx, RxSet, RxPoke, RxList, Post, Take, Out, Burst, RxTail, RxReg, RxSum, Tx, TxSet, TxPoke, TxToken, TxCount, Send, Reclaim, TxTail, TxReg, TxSum, Int, Ptype, Mtx, Mrx, MtxSet, MrxSet, MtxPoke, MrxPoke, Mbuf, MtxList, MrxList, Msend, Mshut, Mdone, Mpost, Mread, MtxTail, MtxReg, MrxTail, MrxReg, MtxSum, MrxSum}

-- a word and the command that it names
pub record Entry : Type 0 where
  pub word : List ℕ
  pub names : Command

-- the words of the queues, and those that need none
abbrev pub queue_words : List Entry
queue_words =
    record { word = bytes_of "rx"; names = Rx }
    ∷ record { word = bytes_of "rxset"; names = RxSet }
    ∷ record { word = bytes_of "rxpoke"; names = RxPoke }
    ∷ record { word = bytes_of "rxlist"; names = RxList }
    ∷ record { word = bytes_of "post"; names = Post }
    ∷ record { word = bytes_of "take"; names = Take }
    ∷ record { word = bytes_of "out"; names = Out }
    ∷ record { word = bytes_of "burst"; names = Burst }
    ∷ record { word = bytes_of "rxtail"; names = RxTail }
    ∷ record { word = bytes_of "rxreg"; names = RxReg }
    ∷ record { word = bytes_of "rxsum"; names = RxSum }
    ∷ record { word = bytes_of "tx"; names = Tx }
    ∷ record { word = bytes_of "txset"; names = TxSet }
    ∷ record { word = bytes_of "txpoke"; names = TxPoke }
    ∷ record { word = bytes_of "txtoken"; names = TxToken }
    ∷ record { word = bytes_of "txcount"; names = TxCount }
    ∷ record { word = bytes_of "send"; names = Send }
    ∷ record { word = bytes_of "reclaim"; names = Reclaim }
    ∷ record { word = bytes_of "txtail"; names = TxTail }
    ∷ record { word = bytes_of "txreg"; names = TxReg }
    ∷ record { word = bytes_of "txsum"; names = TxSum }
    ∷ record { word = bytes_of "int"; names = Int }
    ∷ record { word = bytes_of "ptype"; names = Ptype }
    ∷ []

-- the words of the mailbox
abbrev pub mail_words : List Entry
mail_words =
    record { word = bytes_of "mtx"; names = Mtx }
    ∷ record { word = bytes_of "mrx"; names = Mrx }
    ∷ record { word = bytes_of "mtxset"; names = MtxSet }
    ∷ record { word = bytes_of "mrxset"; names = MrxSet }
    ∷ record { word = bytes_of "mtxpoke"; names = MtxPoke }
    ∷ record { word = bytes_of "mrxpoke"; names = MrxPoke }
    ∷ record { word = bytes_of "mbuf"; names = Mbuf }
    ∷ record { word = bytes_of "mtxlist"; names = MtxList }
    ∷ record { word = bytes_of "mrxlist"; names = MrxList }
    ∷ record { word = bytes_of "msend"; names = Msend }
    ∷ record { word = bytes_of "mshut"; names = Mshut }
    ∷ record { word = bytes_of "mdone"; names = Mdone }
    ∷ record { word = bytes_of "mpost"; names = Mpost }
    ∷ record { word = bytes_of "mread"; names = Mread }
    ∷ record { word = bytes_of "mtxtail"; names = MtxTail }
    ∷ record { word = bytes_of "mtxreg"; names = MtxReg }
    ∷ record { word = bytes_of "mrxtail"; names = MrxTail }
    ∷ record { word = bytes_of "mrxreg"; names = MrxReg }
    ∷ record { word = bytes_of "mtxsum"; names = MtxSum }
    ∷ record { word = bytes_of "mrxsum"; names = MrxSum }
    ∷ []

-- two words of the same bytes
abbrev pub same : List ℕ → List ℕ → Bool
same [] [] = true
same [] (y ∷ ys) = false
same (x ∷ xs) [] = false
same (x ∷ xs) (y ∷ ys) = eqb x y && same xs ys

-- the command that a word names by the first entry that has it, or another answer where none has
abbrev pub named_by : List Entry → Option Command → List ℕ → Option Command
named_by [] other w = other
named_by (e ∷ es) other w = cond (same e.word w) (Some e.names) (named_by es other w)

-- the command of the queues that a word names
unfoldable pub queue_command_of : List ℕ → Option Command
queue_command_of w = named_by queue_words None w

-- the command of the mailbox that a word names
unfoldable pub mail_command_of : List ℕ → Option Command
mail_command_of w = named_by mail_words None w

unfoldable pub command_of : List ℕ → Option Command
command_of w = named_by queue_words (named_by mail_words None w) w
