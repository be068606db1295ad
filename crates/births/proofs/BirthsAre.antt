-- Both kinds of birth are the calls on paper. Assumes nothing.
use Rattle.std.proofs.Common.{◌≡◌, ℕ, ◌+◌, Bool, true, false, length, ltb, leb, refl, ap}
use Rattle.std.proofs.Math.ListN.{length-replicate}
use Rattle.meaning.specs.Answers.{gives}
use Rattle.meaning.specs.Limits.{payload_words}
use Rattle.meaning.specs.Values.{nil_word}
use Rattle.meaning.specs.Calls.{Call, new_record, new_raw, Did, need, fits, admit}
use Rattle.meaning.specs.Store.{Mem, view_of, acted, act, answered}
use Rattle.births.specs.Births.{born, born_into}

-- refusals pass
needed : (m : Mem) (c : Call) (d : Did Mem) → act m c 0 ≡ d → (b1 b2 b3 b4 : Bool) (s : ℕ) → acted m c (need b1 1 0 (need b2 7 s (need b3 12 0 (need b4 11 0 (gives 0))))) ≡ need b1 1 0 (need b2 7 s (need b3 12 0 (need b4 11 0 (gives d))))
needed m c d e false b2 b3 b4 s = refl
needed m c d e true false b3 b4 s = refl
needed m c d e true true false b4 s = refl
needed m c d e true true true false s = refl
needed m c d e true true true true s = ap (λ (x : Did Mem). gives x) e

pub record_born : (m : Mem) (s k : ℕ) → answered m (new_record s k) ≡ born m s k 0 nil_word
unfolding answered admit born
record_born m s k =
    needed m (new_record s k) (born_into m s k 0 nil_word) (rw (length-replicate {A = ℕ} k nil_word))
    (fits (view_of m)) (ltb s (length m.slots)) (leb k payload_words) (leb (m.store.top + 1 + k) (length m.heap)) s

pub raw_born : (m : Mem) (s k : ℕ) → answered m (new_raw s k) ≡ born m s k 1 0
unfolding answered admit born
raw_born m s k =
    needed m (new_raw s k) (born_into m s k 1 0) (rw (length-replicate {A = ℕ} k 0))
    (fits (view_of m)) (ltb s (length m.slots)) (leb k payload_words) (leb (m.store.top + 1 + k) (length m.heap)) s
