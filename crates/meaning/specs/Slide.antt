-- A collection by objects (LISP2): the marked ones are kept, in order, and a reference goes on to its object's new place.
-- `m` says which places have a mark.
use Rattle.std.specs.Prelude.{ℕ, ◌+◌, Bool, ◌&&◌, cond, List, [], ◌∷◌, map, ltb, eqb}
use Rattle.meaning.specs.Values.{is_ref, place_of, ref_to}
use Rattle.meaning.specs.Places.{cons_if}
use Rattle.meaning.specs.Objects.{Object, rec, raw, kind, size, held_by}

-- the marked ones of objects that begin at place p
abbrev pub kept : (ℕ → Bool) → ℕ → List Object → List Object
kept m p [] = []
kept m p (o ∷ os) = cons_if (m p) o (kept m (p + size o) os)

-- the words of the kept objects before place q
abbrev pub new_place : (ℕ → Bool) → ℕ → List Object → ℕ → ℕ
new_place m p [] q = 0
new_place m p (o ∷ os) q = cond (m p && ltb p q) (size o) 0 + new_place m (p + size o) os q

-- a value word, with a reference sent on by f
abbrev pub fix_word : (ℕ → ℕ) → ℕ → ℕ
fix_word f w = cond (is_ref w) (ref_to (f (place_of w))) w

-- a record's words are values; a raw payload stays
abbrev pub fix_object : (ℕ → ℕ) → Object → Object
fix_object f (rec ws) = rec (map (fix_word f) ws)
fix_object f (raw ws) = raw ws

-- the objects after the collection
unfoldable pub slide : (ℕ → Bool) → List Object → List Object
slide m os = map (fix_object (new_place m 0 os)) (kept m 0 os)

-- place q is an object's header
unfoldable pub header_at : List Object → ℕ → Bool
header_at os q = held_by (λ p o. eqb p q) 0 os q

-- place q holds a word of a marked object
unfoldable pub live_at : (ℕ → Bool) → List Object → ℕ → Bool
live_at m os q = held_by (λ p o. m p) 0 os q

-- place q holds a payload word of a marked record
unfoldable pub field_at : (ℕ → Bool) → List Object → ℕ → Bool
field_at m os q = held_by (λ p o. m p && (ltb p q && eqb (kind o) 0)) 0 os q
