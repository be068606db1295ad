-- The check and the collection: what is refused, and where; else the answer. For the collection, every lent buffer afterwards.
use Rattle.std.specs.Prelude.{ℕ, ◌*◌, ◌-◌, Bool, not, ◌&&◌, cond, List, [], ◌∷◌, ◌++◌, map, length, get_or, drop, replicate, leb, eqb}
use Rattle.meaning.specs.Limits.{heap_words, root_slots, order_entries, block_words, blocks_of}
use Rattle.meaning.specs.Answers.{Answer, gives, refused, refuse}
use Rattle.meaning.specs.Values.{is_ref, place_of}
use Rattle.meaning.specs.Places.{places_from, below, up_to, marked, bitmap}
use Rattle.meaning.specs.Objects.{Object, encode, Parsed, all, bad, parse}
use Rattle.meaning.specs.Slide.{kept, new_place, fix_word, slide, header_at, live_at, field_at}
use Rattle.meaning.specs.Blocks.{order_breaks}

-- 1, of what the check takes
abbrev pub sizes_fit : List ℕ → ℕ → List ℕ → List ℕ → Bool
sizes_fit heap top roots marks =
    leb (length heap) heap_words
    && (leb top (length heap) && (leb (length roots) root_slots && eqb (length marks) (blocks_of (length heap))))

-- 1, of what only the collection takes
abbrev pub tables_fit : List ℕ → List ℕ → List ℕ → List ℕ → Bool
tables_fit heap order live offsets =
    leb (length order) order_entries
    && (eqb (length live) (blocks_of (length heap)) && eqb (length offsets) (blocks_of (length heap)))

-- a reference to a place without a mark
abbrev pub dangling : (ℕ → Bool) → ℕ → Bool
dangling m w = is_ref w && not (m (place_of w))

-- 3: mark bits that are not at an object's header below the top
abbrev pub strays : List Object → List ℕ → List ℕ
strays os marks = places_from (λ q. marked marks q && not (header_at os q)) 0 (block_words * length marks)

-- 4: root slots, and 5: payload words of marked records, that are references to a place without a mark
abbrev pub bad_roots : List ℕ → List ℕ → List ℕ
bad_roots roots marks = places_from (λ i. dangling (marked marks) (get_or roots i 0)) 0 (length roots)

abbrev pub bad_fields : List Object → List ℕ → ℕ → List ℕ → List ℕ
bad_fields os heap top marks =
    places_from (λ q. field_at (marked marks) os q && dangling (marked marks) (get_or heap q 0)) 0 top

-- the objects of a heap that passes 2 to 5
abbrev pub judged : List ℕ → ℕ → List ℕ → List ℕ → Parsed → Answer (List Object)
judged heap top roots marks (bad p) = refused 2 p
judged heap top roots marks (all os) =
    refuse 3 (strays os marks) (refuse 4 (bad_roots roots marks) (refuse 5 (bad_fields os heap top marks) (gives os)))

unfoldable pub checked : List ℕ → ℕ → List ℕ → List ℕ → Bool → Answer (List Object)
checked heap top roots marks fit = cond fit (judged heap top roots marks (parse heap top)) (refused 1 0)

-- the live words L and the number of marked objects
pub record Counts : Type 0 where
  pub live : ℕ
  pub objects : ℕ

abbrev pub counted : ℕ → List ℕ → Answer (List Object) → Answer Counts
counted top marks (refused n p) = refused n p
counted top marks (gives os) =
    gives (record { live = below (live_at (marked marks) os) top; objects = length (kept (marked marks) 0 os) })

unfoldable pub check : List ℕ → ℕ → List ℕ → List ℕ → Answer Counts
check heap top roots marks = counted top marks (checked heap top roots marks (sizes_fit heap top roots marks))

-- the new top L, the number of marked objects, and the target blocks T
pub record Totals : Type 0 where
  pub top : ℕ
  pub objects : ℕ
  pub blocks : ℕ

-- the answer, and what each lent buffer holds afterwards
pub record After : Type 0 where
  pub answer : Answer Totals
  pub heap : List ℕ
  pub roots : List ℕ
  pub marks : List ℕ
  pub live : List ℕ
  pub offsets : List ℕ

-- for each of n blocks the number of live words below it
abbrev pub offset_table : (ℕ → Bool) → ℕ → List ℕ
offset_table t n = map (λ b. below t (block_words * b)) (up_to n)

module _ (heap : List ℕ) (top : ℕ) (roots marks : List ℕ) where
  -- once the tables are filled: 6 at the first position at which the order breaks, else the slid objects, zeros up to the old top,
  -- and the words from there on as found
  abbrev pub ordered : List Object → List ℕ → List ℕ → List ℕ → After
  ordered os live offsets (i ∷ is) =
      record { answer = refused 6 i; heap = heap; roots = roots; marks = marks; live = live; offsets = offsets }
  ordered os live offsets [] =
      let m = marked marks in
      let L = below (live_at m os) top in
      record {
        answer = gives (record { top = L; objects = length (kept m 0 os); blocks = blocks_of L });
        heap = encode (slide m os) ++ (replicate (top - L) 0 ++ drop top heap);
        roots = map (fix_word (new_place m 0 os)) roots;
        marks = replicate (length marks) 0;
        live = live;
        offsets = offsets;
      }

  -- refusals 1 to 5 leave every buffer as found
  abbrev pub collected : List ℕ → List ℕ → List ℕ → Answer (List Object) → After
  collected order live offsets (refused n p) =
      record { answer = refused n p; heap = heap; roots = roots; marks = marks; live = live; offsets = offsets }
  collected order live offsets (gives os) =
      let t = live_at (marked marks) os in
      ordered os (bitmap t (length live)) (offset_table t (length offsets)) (order_breaks (places_from t 0 top) order)

unfoldable pub collect : List ℕ → ℕ → List ℕ → List ℕ → List ℕ → List ℕ → List ℕ → After
collect heap top roots marks order live offsets =
    collected heap top roots marks order live offsets
    (checked heap top roots marks (sizes_fit heap top roots marks && tables_fit heap order live offsets))
