-- Read at their places, the words give back the fields that they were made of: every field, for all values that fit.
-- Assumes nothing.
use Rattle.std.proofs.Common.{◌≡◌}
use Rattle.field.proofs.Laws.{reads, flag_back, fit_back}
use Rattle.descriptor.specs.declared.Data.{Data}
use Rattle.descriptor.specs.declared.Context.{Context}
use Rattle.descriptor.specs.Words.{iipt_line, l4t_line, maclen_line, iplen_line, l4len_line, length_line, tag_line, tlen_line, mss_line, data_parts, data_word, read_data, DataFits, context_parts, context_word, read_context, ContextFits}

pub data_back : (d : Data) → DataFits d → read_data (data_word d) ≡ d
data_back d f =
    let r = reads (data_parts d) tt in
    λ i.
    record {
      eop = flag_back d.eop (r 1 tt) i;
      rs = flag_back d.rs (r 2 tt) i;
      il2tag1 = flag_back d.il2tag1 (r 4 tt) i;
      iipt = fit_back iipt_line f.iipt (r 5 tt) i;
      l4t = fit_back l4t_line f.l4t (r 6 tt) i;
      maclen = fit_back maclen_line f.maclen (r 7 tt) i;
      iplen = fit_back iplen_line f.iplen (r 8 tt) i;
      l4len = fit_back l4len_line f.l4len (r 9 tt) i;
      length = fit_back length_line f.length (r 10 tt) i;
      tag = fit_back tag_line f.tag (r 11 tt) i;
    }

pub context_back : (x : Context) → ContextFits x → read_context (context_word x) ≡ x
context_back x f =
    let r = reads (context_parts x) tt in
    λ i. record { tlen = fit_back tlen_line f.tlen (r 2 tt) i; mss = fit_back mss_line f.mss (r 3 tt) i }
