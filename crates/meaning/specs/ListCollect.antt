-- Collecting on the simple list: the unmarked objects are dropped. `m` says which places have a mark; `p` is the place of the first object.
use Rattle.std.specs.Prelude.{ℕ, suc, ◌+◌, ◌*◌, Bool, true, false, not, ◌&&◌, ◌||◌, cond, List, [], ◌∷◌, ◌++◌, length, ltb, leb, eqb}
use Rattle.meaning.specs.Limits.{block_words, blocks_of, order_entries}
use Rattle.meaning.specs.Answers.{Answer, gives, refuse}
use Rattle.meaning.specs.Values.{Value, int, nil, ref}
use Rattle.meaning.specs.Places.{cons_if, places_from, marked}
use Rattle.meaning.specs.Blocks.{order_breaks}
use Rattle.meaning.specs.Calls.{Brought, collected, Did, need, fits}
use Rattle.meaning.specs.SimpleList.{Born, rec, raw, gone, Simple, words, in_use, place, view_list, says_list}

-- an object stands where it was not dropped
abbrev pub stands : Born → Bool
stands (rec vs) = true
stands (raw ws) = true
stands (gone n) = false

-- q is an object's place
abbrev pub place_in : ℕ → List Born → ℕ → Bool
place_in p [] q = false
place_in p (o ∷ os) q = (stands o && eqb p q) || place_in (p + words o) os q

-- q is one of the places of a marked object
abbrev pub live_in : (ℕ → Bool) → ℕ → List Born → ℕ → Bool
live_in m p [] q = false
live_in m p (o ∷ os) q = (m p && (leb p q && ltb q (p + words o))) || live_in m (p + words o) os q

-- a reference to an object without a mark
abbrev pub lost : (ℕ → Bool) → List Born → Value → Bool
lost m all (int z) = false
lost m all nil = false
lost m all (ref i) = not (m (place all i))

-- the places of such references, the first value standing at q
abbrev pub lost_from : (ℕ → Bool) → List Born → ℕ → List Value → List ℕ
lost_from m all q [] = []
lost_from m all q (v ∷ vs) = cons_if (lost m all v) q (lost_from m all (suc q) vs)

-- those in an object at p, where it is a marked record
abbrev pub lost_of : (ℕ → Bool) → List Born → ℕ → Born → List ℕ
lost_of m all p (rec vs) = cond (m p) (lost_from m all (suc p) vs) []
lost_of m all p (raw ws) = []
lost_of m all p (gone n) = []

abbrev pub lost_in : (ℕ → Bool) → List Born → ℕ → List Born → List ℕ
lost_in m all p [] = []
lost_in m all p (o ∷ os) = lost_of m all p o ++ lost_in m all (p + words o) os

-- an object that is not marked is dropped
abbrev pub keep : Bool → Born → Born
keep true o = o
keep false (rec vs) = gone (suc (length vs))
keep false (raw ws) = gone (suc (length ws))
keep false (gone n) = gone n

abbrev pub keep_in : (ℕ → Bool) → ℕ → List Born → List Born
keep_in m p [] = []
keep_in m p (o ∷ os) = keep (m p) o ∷ keep_in m (p + words o) os

abbrev pub standing : List Born → ℕ
standing [] = 0
standing (o ∷ os) = cond (stands o) 1 0 + standing os

-- 1, of what only a collect takes
abbrev pub brought_fits : ℕ → Brought → Bool
brought_fits room b =
    eqb (length b.marks) (blocks_of room)
    && (leb (length b.order) order_entries && (eqb (length b.live) (blocks_of room) && eqb (length b.offsets) (blocks_of room)))

-- 3 to 6 by the list's own places, else what is left
abbrev pub judged_list : Simple → Brought → Answer (Did Simple)
judged_list a b =
    let m = marked b.marks in
    let os = a.objects in
    let left = keep_in m 0 os in
    refuse 3 (places_from (λ q. m q && not (place_in 0 os q)) 0 (block_words * length b.marks))
    (refuse 4 (lost_from m os 0 a.slots)
    (refuse 5 (lost_in m os 0 os)
    (refuse 6 (order_breaks (places_from (live_in m 0 os) 0 (in_use os)) b.order)
    (gives (says_list a (collected (record { top = in_use left; objects = standing left; blocks = blocks_of (in_use left) })) left a.slots)))))

-- a collect on the list
unfoldable pub collects_list : Simple → Brought → Answer (Did Simple)
collects_list a b = need (fits (view_list a) && brought_fits a.room b) 1 0 (judged_list a b)
