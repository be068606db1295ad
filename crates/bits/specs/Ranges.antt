-- Stretches of a bitmap: the next marked place, and a range of places marked.
use Rattle.std.specs.Prelude.{Option, slice_get, ℕ, ◌-◌, ◌*◌, ◌≡◌, Bool, ◌&&◌, ◌||◌, List, leb, ltb, length}
use Rattle.meaning.specs.Limits.{block_words}
use Rattle.meaning.specs.Places.{places_from, marked, bitmap}

-- the first place past a bitmap
abbrev pub end_of : List ℕ → ℕ
end_of m = block_words * length m

-- the lowest marked place from p on, if there is one
unfoldable pub next_set : List ℕ → ℕ → Option ℕ
next_set m p = slice_get (places_from (marked m) p (end_of m - p)) 0

-- from ≤ q < to
abbrev pub between : ℕ → ℕ → ℕ → Bool
between from to q = leb from q && ltb q to

-- after marks what before does, and the places from .. to - 1
abbrev pub Gains : List ℕ → List ℕ → ℕ → ℕ → Type 0
Gains before after from to = (q : ℕ) → marked after q ≡ marked before q || between from to q

-- the bitmap with the places from .. to - 1 marked too
unfoldable pub set_range : List ℕ → ℕ → ℕ → List ℕ
set_range m from to = bitmap (λ q. marked m q || between from to q) (length m)
