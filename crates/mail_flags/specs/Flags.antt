-- The flags of a mailbox element, its bytes 0 and 1 as one word (000, Table 4-2).
-- Assumes nothing.
use Rattle.std.specs.Prelude.{ℕ, Bool, true, false, not, List, [], ◌∷◌, eqb}
use Rattle.rules.specs.Rules.{any_of}
use Rattle.field.specs.Field.{Part, part, Line, read_at, is_set, word_of, bit}
use Rattle.mail_flags.specs.declared.Flags.{Flags}

-- byte 0
abbrev pub dd_flag : Line
dd_flag v = part 0 1 v

abbrev pub cmp_flag : Line
cmp_flag v = part 1 1 v

abbrev pub err_flag : Line
err_flag v = part 2 1 v

-- byte 1
abbrev pub lb_flag : Line
lb_flag v = part 9 1 v

abbrev pub rd_flag : Line
rd_flag v = part 10 1 v

abbrev pub vfc_flag : Line
vfc_flag v = part 11 1 v

abbrev pub buf_flag : Line
buf_flag v = part 12 1 v

abbrev pub si_flag : Line
si_flag v = part 13 1 v

abbrev pub ei_flag : Line
ei_flag v = part 14 1 v

abbrev pub fe_flag : Line
fe_flag v = part 15 1 v

-- the flags that a driver sets
abbrev pub flag_lines : Flags → List Part
flag_lines f = lb_flag (bit f.lb) ∷ rd_flag (bit f.rd) ∷ buf_flag (bit f.buf) ∷ si_flag (bit f.si) ∷ ei_flag (bit f.ei) ∷ fe_flag (bit f.fe) ∷ []

abbrev pub flags_of : Flags → ℕ
flags_of f = word_of (flag_lines f)

-- a flag differs in two words
abbrev pub differs : ℕ → ℕ → Line → Bool
differs a b l = not (eqb (read_at l a) (read_at l b))

abbrev pub differing : ℕ → ℕ → List Line → List Bool
differing a b [] = []
differing a b (l ∷ ls) = differs a b l ∷ differing a b ls

-- the flags marked 'Echo' in Tables 4-6 and 4-8: of a message without BUF neither LB nor BUF is judged
abbrev pub echoes : Bool → List Line
echoes true = rd_flag ∷ vfc_flag ∷ si_flag ∷ ei_flag ∷ fe_flag ∷ lb_flag ∷ buf_flag ∷ []
echoes false = rd_flag ∷ vfc_flag ∷ si_flag ∷ ei_flag ∷ fe_flag ∷ []

-- one of them is not as it was posted
abbrev pub not_echoed : Bool → ℕ → ℕ → Bool
not_echoed buffered flags posted = any_of (differing flags posted (echoes buffered))

-- a driver's flags in a word, read back
abbrev pub flags_in : ℕ → Flags
flags_in w = record { lb = is_set lb_flag w; rd = is_set rd_flag w; buf = is_set buf_flag w; si = is_set si_flag w; ei = is_set ei_flag w; fe = is_set fe_flag w }
