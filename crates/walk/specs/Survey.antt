-- The bitmaps that a walk over the objects leaves, and where it ends.
use Rattle.std.specs.Prelude.{ℕ, ◌+◌, ◌≤◌, ◌<◌, ◌≡◌, Bool, true, false, ◌&&◌, ◌||◌, List, ltb, length, replicate}
use Rattle.bits.specs.Ranges.{between}
use Rattle.meaning.specs.Limits.{heap_words, table_entries}
use Rattle.walk.specs.declared.Survey.{Survey}
use Rattle.meaning.specs.Places.{marked}
use Rattle.meaning.specs.Objects.{Object, all, bad, parse}
use Rattle.meaning.specs.Words.{starts, live, field}

-- a survey in which nothing is noted
abbrev pub blank_survey : Survey
blank_survey = record { headers = replicate table_entries 0; words = replicate table_entries 0; fields = replicate table_entries 0 }

-- of the words below p: headers, words of marked objects, and payload words of marked records
pub record Noted (heap : List ℕ) (m : ℕ → Bool) (p : ℕ) (headers words fields : List ℕ) : Type 0 where
  pub is_header : (q : ℕ) → marked headers q ≡ ltb q p && starts heap q
  pub is_live : (q : ℕ) → marked words q ≡ ltb q p && live heap m q
  pub is_field : (q : ℕ) → marked fields q ≡ ltb q p && (live heap m q && field heap q)

-- after marks what before does and, where `on` holds, the places from .. to - 1
abbrev pub GainsIf : Bool → List ℕ → List ℕ → ℕ → ℕ → Type 0
GainsIf on before after from to = (q : ℕ) → marked after q ≡ marked before q || (on && between from to q)

-- the object of places p .. next - 1 noted too
pub record Notes (p next : ℕ) (kept is_record : Bool) (headers₀ words₀ fields₀ headers words fields : List ℕ) : Type 0 where
  pub header_gained : GainsIf true headers₀ headers p (p + 1)
  pub words_gained : GainsIf kept words₀ words p next
  pub fields_gained : GainsIf (kept && is_record) fields₀ fields (p + 1) next

-- what a walk starts from: a heap that the bitmaps have bits for, and nothing noted
pub record Blank (heap : List ℕ) (top : ℕ) (headers words fields : List ℕ) : Type 0 where
  pub room : top ≤ length heap
  pub small : length heap ≤ heap_words
  pub no_header : (q : ℕ) → marked headers q ≡ false
  pub no_word : (q : ℕ) → marked words q ≡ false
  pub no_field : (q : ℕ) → marked fields q ≡ false

-- the walk ends at the first bad header, or at the top with everything noted
pub record Walked (heap : List ℕ) (top : ℕ) (m : ℕ → Bool) (headers words fields : List ℕ) (end : ℕ) : Type 0 where
  pub low : end ≤ top
  pub stopped : end < top → parse heap top ≡ bad end
  pub through : end ≡ top → ((os : List Object) × (parse heap top ≡ all os)) × Noted heap m top headers words fields
