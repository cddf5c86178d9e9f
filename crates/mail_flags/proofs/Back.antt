-- A driver's flags read back from their word.
-- Assumes nothing.
use Rattle.std.proofs.Common.{◌≡◌}
use Rattle.field.proofs.Laws.{reads, flag_back}
use Rattle.mail_flags.specs.declared.Flags.{Flags}
use Rattle.mail_flags.specs.Flags.{flag_lines, flags_of, flags_in}

pub flags_back : (f : Flags) → flags_in (flags_of f) ≡ f
flags_back f =
    let r = reads (flag_lines f) tt in
    λ i.
    record {
      lb = flag_back f.lb (r 0 tt) i;
      rd = flag_back f.rd (r 1 tt) i;
      buf = flag_back f.buf (r 2 tt) i;
      si = flag_back f.si (r 3 tt) i;
      ei = flag_back f.ei (r 4 tt) i;
      fe = flag_back f.fe (r 5 tt) i;
    }
