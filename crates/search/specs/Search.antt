-- What the searches of the check look for, and what they rely on.
use Rattle.std.specs.Prelude.{ℕ, ◌+◌, ◌*◌, ◌<◌, ◌≡◌, Bool, true, not, ◌&&◌, List, length, get_or, Option, slice_get}
use Rattle.meaning.specs.Limits.{block_words}
use Rattle.meaning.specs.Values.{is_ref, place_of}
use Rattle.meaning.specs.Places.{places_from, bit_set, marked}

-- the lowest place below n that passes, if there is one
abbrev pub first_of : (ℕ → Bool) → ℕ → Option ℕ
first_of t n = slice_get (places_from t 0 n) 0

-- a mark that is at no header
abbrev pub stray : List ℕ → List ℕ → ℕ → Bool
stray marks headers q = marked marks q && not (marked headers q)

-- the word at a place is a reference
abbrev pub ref_at : List ℕ → ℕ → Bool
ref_at heap q = is_ref (get_or heap q 0)

-- the reference at a place is to a place without a mark
abbrev pub lost_at : List ℕ → List ℕ → ℕ → Bool
lost_at heap marks q = not (marked marks (place_of (get_or heap q 0)))

-- of the references, those to a place without a mark
abbrev pub bad_field : List ℕ → List ℕ → List ℕ → ℕ → Bool
bad_field heap marks refs q = marked refs q && lost_at heap marks q

-- of the marks before, those at references are kept
abbrev pub KeepsRefs : List ℕ → List ℕ → List ℕ → Type 0
KeepsRefs heap before after = (q : ℕ) → marked after q ≡ marked before q && ref_at heap q

-- ## What a bitmap is relied on for
abbrev pub InHeap : List ℕ → ℕ → Type 0
InHeap heap q = q < length heap

abbrev pub HoldsRef : List ℕ → ℕ → Type 0
HoldsRef heap q = (q < length heap) × (ref_at heap q ≡ true)

-- each marked place is such a one
abbrev pub Each : (ℕ → Type 0) → List ℕ → Type 0
Each P map = (q : ℕ) → marked map q ≡ true → P q

-- the same of one word, that of block b
abbrev pub EachIn : (ℕ → Type 0) → ℕ → ℕ → Type 0
EachIn P b word = (i : ℕ) → i < block_words → bit_set word i ≡ true → P (block_words * b + i)
