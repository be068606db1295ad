-- Store calls on one store of words, and what each should say: every refusal of the table, in its order, and every answer.
use Rattle.std.specs.Prelude.{ℕ, true, false, List, [], ◌∷◌, replicate, pos, negsuc}
use Rattle.meaning.specs.Answers.{Answer, gives, refused}
use Rattle.meaning.specs.Values.{nil_word}
use Rattle.meaning.specs.Calls.{Call, put_int, copy, new_record, new_raw, read_field, write_field, read_raw, write_raw, ask, same, Said, done, integer, is_nil, is_record, is_raw, word, the_same}
use Rattle.meaning.specs.Store.{Mem, answered}
use Rattle.meaning.specs.Sequences.{said}

-- a record of 2 at 0, raw of 3 at 3, a record of 2 at 7, six free words. The slots hold the first two, -1, nil, references above the
-- top, to an illegal header and to a record past the top, and the first record again
abbrev pub hostile : ℕ → Mem
hostile top =
    record {
      heap = 8 ∷ 10 ∷ 15 ∷ 13 ∷ 101 ∷ 102 ∷ 103 ∷ 8 ∷ 1 ∷ 16 ∷ replicate 6 9;
      slots = 1 ∷ 7 ∷ 4294967294 ∷ nil_word ∷ 21 ∷ 3 ∷ 19 ∷ 1 ∷ [];
      store = record { top = top; calls = 0 };
    }

abbrev on : ℕ → Call → Answer Said
on top c = said (answered (hostile top) c)

unfoldable pub call_cases : List (Answer Said × Answer Said)
call_cases =
    (on 17 (ask 9), refused 1 0)
    ∷ (on 10 (read_field 9 5 8), refused 7 9)
    ∷ (on 10 (read_field 4 5 8), refused 7 8)
    ∷ (on 10 (write_field 4 5 8), refused 7 8)
    ∷ (on 10 (copy 8 9), refused 7 8)
    ∷ (on 10 (same 9 8), refused 7 9)
    ∷ (on 10 (put_int 8 (pos 1073741824)), refused 7 8)
    ∷ (on 10 (new_record 8 1024), refused 7 8)
    ∷ (on 10 (read_field 4 5 0), refused 13 4)
    ∷ (on 10 (read_raw 5 5), refused 13 5)
    ∷ (on 10 (ask 6), refused 13 6)
    ∷ (on 10 (read_field 1 5 0), refused 8 1)
    ∷ (on 10 (write_field 2 5 0), refused 8 2)
    ∷ (on 10 (write_raw 0 5 7), refused 8 0)
    ∷ (on 10 (read_raw 3 5), refused 8 3)
    ∷ (on 10 (read_field 0 2 0), refused 9 2)
    ∷ (on 10 (write_raw 1 3 7), refused 9 3)
    ∷ (on 10 (put_int 0 (pos 1073741824)), refused 10 0)
    ∷ (on 10 (put_int 0 (negsuc 1073741824)), refused 10 0)
    ∷ (on 10 (new_raw 0 1024), refused 12 0)
    ∷ (on 10 (new_raw 0 6), refused 11 0)
    ∷ (on 10 (new_record 0 5), gives done)
    ∷ (on 10 (copy 4 0), gives done)
    ∷ (on 10 (read_raw 1 2), gives (word 103))
    ∷ (on 10 (ask 0), gives (is_record 2))
    ∷ (on 10 (ask 1), gives (is_raw 3))
    ∷ (on 10 (ask 2), gives (integer (negsuc 0)))
    ∷ (on 10 (ask 3), gives is_nil)
    ∷ (on 10 (same 0 7), gives (the_same true))
    ∷ (on 10 (same 4 5), gives (the_same false))
    ∷ []
