-- Input that comes in pieces: the lines of a text of which a lent memory holds a part.
-- Assumes nothing.
use Rattle.std.specs.Prelude.{ℕ, ◌+◌, Bool, true, false, ◌||◌, cond, List, ◌≡◌, ltb, length, take, Some, None}
use Rattle.std.proofs.Math.Seq.{slice}
use Rattle.std.proofs.lemmas.List.Edits.{sets}
use Rattle.digits.specs.Put.{fits_at}
use Rattle.words.specs.Parts.{end_of}
use Rattle.feed.specs.declared.Lines.{Lines}
use Rattle.feed.specs.declared.Step.{Step}

-- nothing to read; what comes may go on a line that is too long
abbrev pub no_lines : Bool → Lines
no_lines long = record { start = 0; end = 0; long = long }

-- the next line ends at the first line end among the bytes that are held and not read
unfoldable pub next_of : Lines → List ℕ → Step
next_of lines text =
    let held = take lines.end text in
    let at = end_of 10 held lines.start in
    cond (ltb at (length held))
    (record { line = Some (record { long = lines.long; from = lines.start; to = at }); lines = record { start = at + 1; end = lines.end; long = false } })
    (record { line = None; lines = lines })

-- at the end of the input what is not read is a line, unless it is nothing
abbrev pub last_of : Lines → Step
last_of lines =
    record { line = cond (ltb lines.start lines.end || lines.long) (Some (record { long = lines.long; from = lines.start; to = lines.end })) None; lines = no_lines false }

-- the bytes from one place up to another stand at the front too
pub record MovedDown (text : List ℕ) (from to r : ℕ) (left : List ℕ) : Type 0 where
  pub count_is : r ≡ length (slice from to text)
  pub text_is : left ≡ sets text 0 (slice from to text)

-- what is not read, so many bytes in a memory so long, stands at the front; where it fills the memory it is given up
abbrev pub room_of : Bool → ℕ → ℕ → Lines
room_of long count room = cond (ltb count room) (record { start = 0; end = count; long = long }) (no_lines true)

pub record RoomMade (lines : Lines) (text : List ℕ) (r : Lines) (left : List ℕ) : Type 0 where
  pub lines_are : r ≡ room_of lines.long (length (slice lines.start lines.end text)) (length text)
  pub text_is : left ≡ sets text 0 (slice lines.start lines.end text)

-- so many bytes more, where a memory so long has room for them
abbrev pub more_of : Lines → ℕ → ℕ → Lines
more_of lines got room = cond (fits_at room lines.end got) (record { start = lines.start; end = lines.end + got; long = lines.long }) lines
