-- Worked examples of a full packet followed by an empty slot (02), a table of their own: 01 has none of it.
-- Assumes nothing.
use Rattle.std.specs.Prelude.{ℕ, ◌*◌, ◌+◌, ◌^◌, ◌≡◌, List, [], ◌∷◌, ◌++◌, replicate}
use Rattle.std.proofs.lemmas.List.Edits.{sets}
use Rattle.rules.specs.Rules.{done, number_of, answer_at}
use Rattle.writeback.specs.WriteBack.{write_back_of}
use Rattle.receive.specs.declared.Taken.{Taken}
use Rattle.receive.specs.Take.{take_of, advanced}
use Rattle.receive.specs.Burst.{burst_of}
use Rattle.paper.specs.Paper.{full}
use Rattle.paper.specs.Counts.{received}

-- the words of slots with these words 1
abbrev pub words_for : List ℕ → List ℕ
words_for [] = []
words_for (w ∷ ws) = 0 ∷ w ∷ words_for ws

-- the device writes the first of 31 posted slots so; and what a take says
abbrev pub wrote : List ℕ → List ℕ
wrote ws = sets full.ring 0 (words_for ws)

abbrev pub taking : List ℕ → Taken
taking ws = take_of full.queue (wrote ws) full.list

-- five full buffers, none with EOP
abbrev pub five_full : List ℕ
five_full = replicate 5 (2048 * 2 ^ 38 + 1)

pub record Sixth : Type 0 where
  -- the branch's packet, on which the queue stuck: five full buffers and an empty sixth with EOP
  pub branch : taking (five_full ++ 3 ∷ [])
      ≡ record {
        answer = done;
        queue = advanced full.queue 6;
        packet = record {
          count = 6;
          total = 10240;
          addresses = replicate 6 4096;
          lengths = 2048 ∷ 2048 ∷ 2048 ∷ 2048 ∷ 2048 ∷ 0 ∷ [];
          last = write_back_of (record { word0 = 0; word1 = 3 });
        };
      }
  -- the fifth is looked past: a sixth that is not written yet is 4, and one that is not posted, whatever stands there
  pub not_written : number_of (taking five_full).answer ≡ 4
  pub not_posted : number_of (take_of (received 5 5 0) (wrote (five_full ++ 3 ∷ [])) full.list).answer ≡ 4
  -- a sixth with data is 5, with EOP or without, and so is an empty one without EOP
  pub with_data : number_of (taking (five_full ++ (2 ^ 38 + 3) ∷ [])).answer ≡ 5
  pub with_more : number_of (taking (five_full ++ (2 ^ 38 + 1) ∷ [])).answer ≡ 5
  pub without_end : number_of (taking (five_full ++ 1 ∷ [])).answer ≡ 5
  -- a packet and then six slots that are refused: six times the packets plus six are examined, and no more could be
  pub bound : burst_of full.queue (wrote ((five_full ++ 3 ∷ []) ++ five_full ++ 1 ∷ [])) full.list (replicate 96 7) 32
      ≡ record { answer = answer_at 5; queue = advanced full.queue 6; packets = 1; examined = 12 }
