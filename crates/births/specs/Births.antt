-- A new object's birth, for both kinds: when it is refused, and the words that it puts down.
use Rattle.std.specs.Prelude.{ℕ, suc, ◌+◌, ◌*◌, List, ◌∷◌, ◌++◌, length, take, drop, set, replicate, ltb, leb}
use Rattle.meaning.specs.Answers.{Answer as Answered, gives}
use Rattle.meaning.specs.Limits.{payload_words}
use Rattle.meaning.specs.Values.{ref_to}
use Rattle.meaning.specs.Calls.{Did, done, need, fits}
use Rattle.meaning.specs.Store.{Mem, grown, says, view_of}

-- the words ws put at place at
abbrev pub put : List ℕ → ℕ → List ℕ → List ℕ
put h at ws = take at h ++ (ws ++ drop (at + length ws) h)

-- a header of this kind and k words w
abbrev pub object_of : ℕ → ℕ → ℕ → List ℕ
object_of k kind w = (4 * k + kind) ∷ replicate k w

-- the memory after it
abbrev pub born_into : Mem → ℕ → ℕ → ℕ → ℕ → Did Mem
born_into m s k kind w =
    let top = m.store.top in
    says done (put m.heap top (object_of k kind w)) (set m.slots s (ref_to top)) (grown m.store (suc k))

-- refusals 1, 7, 12 and 11
unfoldable pub born : Mem → ℕ → ℕ → ℕ → ℕ → Answered (Did Mem)
born m s k kind w =
    need (fits (view_of m)) 1 0
    (need (ltb s (length m.slots)) 7 s
    (need (leb k payload_words) 12 0
    (need (leb (m.store.top + 1 + k) (length m.heap)) 11 0 (gives (born_into m s k kind w)))))
