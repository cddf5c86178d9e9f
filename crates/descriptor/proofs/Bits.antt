-- The bits of the words one by one: which are always 0, which always 1, and what two pieces of one send share.
-- Assumes nothing.
use Rattle.std.proofs.Common.{ℕ, ◌+◌, ◌%◌, ◌^◌, ◌≡◌, sym, ap, ◌∙◌, Bool, false, List, [], ◌∷◌, mod-lt, arith, T, pow_pos}
use mir.Facts.{and_yes}
use Rattle.field.specs.Field.{field_of, placed, Part, Line, read_at, apart, free, bit}
use Rattle.field.proofs.Laws.{reads, reads_free, put_apart}
use Rattle.descriptor.specs.declared.Data.{Data}
use Rattle.descriptor.specs.declared.Context.{Context}
use Rattle.descriptor.specs.Words.{type_line, crc_line, tso_line, eop_line, rs_line, length_line, data_parts, data_word, piece_of, context_parts, context_word}
use Rattle.descriptor.specs.Words.{own}

module _ (d : Data) where
  -- a field that no line of the table shares a bit with is 0: 8, 11 and 15:14
  pub data_free : (at k : ℕ) → T (free at k (data_parts d)) → field_of at k (data_word d) ≡ 0
  data_free at k t = reads_free at k (data_parts d) tt t

  pub data_zeros : (field_of 8 1 (data_word d) ≡ 0) × (field_of 11 1 (data_word d) ≡ 0) × (field_of 14 2 (data_word d) ≡ 0)
  data_zeros = (data_free 8 1 tt, data_free 11 1 tt, data_free 14 2 tt)

  pub data_type : read_at type_line (data_word d) ≡ 0
  data_type = reads (data_parts d) tt 0 tt

  pub data_crc : read_at crc_line (data_word d) ≡ 1
  data_crc = reads (data_parts d) tt 3 tt

module _ (x : Context) where
  pub context_free : (at k : ℕ) → T (free at k (context_parts x)) → field_of at k (context_word x) ≡ 0
  context_free at k t = reads_free at k (context_parts x) tt t

  pub context_zeros : (field_of 5 25 (context_word x) ≡ 0) × (field_of 48 2 (context_word x) ≡ 0)
  context_zeros = (context_free 5 25 tt, context_free 48 2 tt)

  pub context_type : read_at type_line (context_word x) ≡ 1
  context_type = reads (context_parts x) tt 0 tt

  pub context_tso : read_at tso_line (context_word x) ≡ 1
  context_tso = reads (context_parts x) tt 1 tt

-- ---- the pieces of one send

module _ (at k : ℕ) (l : Line) where
  -- a field that shares no bit with a line nor with those after it
  splits : (ps : List Part) → T (free at k (l 0 ∷ ps)) → T (apart (l 0).at (l 0).width at k) × T (free at k ps)
  splits ps t = and_yes (apart (l 0).at (l 0).width at k) (free at k ps) t

  -- reads alike with that line and without it
  one_line : {w : ℕ} (v w₀ : ℕ) → w ≡ w₀ + placed (l 0).at (l 0).width v → read_at l w₀ ≡ 0 → T (apart (l 0).at (l 0).width at k) → field_of at k w ≡ field_of at k w₀
  one_line v w₀ e z t =
      let n : ℕ = (l 0).width in
      ap (λ (x : ℕ). field_of at k x) e ∙ put_apart (l 0).at n (v % 2 ^ n) w₀ at k z (mod-lt v (pow_pos n)) t

abbrev marked : Data → ℕ → Bool → Bool → Data
marked d length eop rs =
    record { eop = eop; rs = rs; il2tag1 = d.il2tag1; iipt = d.iipt; l4t = d.l4t; maclen = d.maclen; iplen = d.iplen; l4len = d.l4len; length = length; tag = d.tag }

module _ (d : Data) (at k : ℕ) (t : T (free at k own)) where
  bare : (length : ℕ) (eop rs : Bool) → field_of at k (data_word (marked d length eop rs)) ≡ field_of at k (data_word (marked d 0 false false))
  bare length eop rs =
      let a = splits at k eop_line (rs_line 0 ∷ length_line 0 ∷ []) t in
      let b = splits at k rs_line (length_line 0 ∷ []) a.1 in
      let c = splits at k length_line [] b.1 in
      one_line at k eop_line (bit eop) (data_word (marked d length false rs)) (omega arith) (reads (data_parts (marked d length false rs)) tt 1 tt) a.0
      ∙ one_line at k rs_line (bit rs) (data_word (marked d length false false)) (omega arith) (reads (data_parts (marked d length false false)) tt 2 tt) b.0
      ∙ one_line at k length_line length (data_word (marked d 0 false false)) (omega arith) (reads (data_parts (marked d 0 false false)) tt 10 tt) c.0

  -- two pieces of one send read alike at every field that shares no bit with length, EOP and RS
  pub pieces_alike : (length length' : ℕ) (last last' : Bool) → field_of at k (data_word (piece_of d length last)) ≡ field_of at k (data_word (piece_of d length' last'))
  pieces_alike length length' last last' = bare length last last ∙ sym (bare length' last' last')
