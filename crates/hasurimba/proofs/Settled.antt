-- The promises of the functions for C settle the number and all lent memory: two ends of one call are the same. A refused store call
-- leaves the record as found, and any leaves its words from 2 on. Assumes nothing.
use Prim.Native.Nat.{ℕ, ◌+◌, ◌*◌, ◌≤◌}
use mathlib.Core.Path.{◌≡◌, sym, ◌∙◌}
use mathlib.Core.List.{List}
use lib.ListN.{get_or, set}
use lib.Seq.{get_or-set_other}
use native.Mathlib.Omega.{arith}
use Rattle.meaning.specs.Answers.{Answer, refused}
use Rattle.meaning.specs.Collect.{After}
use Rattle.meaning.specs.Calls.{Brought}
use Rattle.meaning.specs.Sequences.{Step, step}
use Rattle.telling.specs.Out.{code, Says, SaysCollected}
use Rattle.keeping.proofs.KeptStore.{put_back}
use Rattle.keeping.specs.Kept.{memory, said_by, after_it, Leaves, TellsCall, SaysCall, SaysCollect}

-- ## The check, the lookups and the bare collection
pub answer_settled : {A : Type 0} {values : A → List ℕ} {a : Answer A} {out : List ℕ} {r r' : ℕ} {out₁ out₂ : List ℕ} → Says values a out r out₁ → Says values a out r' out₂ → (r ≡ r') × (out₁ ≡ out₂)
answer_settled p q = (p.number ∙ sym q.number, p.words ∙ sym q.words)

-- two ends of a collection: heap, roots, marks and both tables
pub record SameBuffers (heap heap' roots roots' marks marks' live live' offsets offsets' : List ℕ) : Type 0 where
  pub heaps : heap ≡ heap'
  pub roots_same : roots ≡ roots'
  pub marks_same : marks ≡ marks'
  pub lives : live ≡ live'
  pub offsets_same : offsets ≡ offsets'

pub bare_collect_settled : {c : After} {out : List ℕ} {r r' : ℕ} {heap₁ heap₂ roots₁ roots₂ marks₁ marks₂ live₁ live₂ offsets₁ offsets₂ out₁ out₂ : List ℕ}
    → SaysCollected c out r heap₁ roots₁ marks₁ live₁ offsets₁ out₁ → SaysCollected c out r' heap₂ roots₂ marks₂ live₂ offsets₂ out₂
    → ((r ≡ r') × (out₁ ≡ out₂)) × SameBuffers heap₁ heap₂ roots₁ roots₂ marks₁ marks₂ live₁ live₂ offsets₁ offsets₂
bare_collect_settled p q = (
  answer_settled p.says q.says,
  record {
    heaps = p.heap_is ∙ sym q.heap_is;
    roots_same = p.roots_are ∙ sym q.roots_are;
    marks_same = p.marks_are ∙ sym q.marks_are;
    lives = p.live_is ∙ sym q.live_is;
    offsets_same = p.offsets_are ∙ sym q.offsets_are;
  },
)

-- ## The store calls
-- two ends: number, record, heap and roots
pub record Same (r r' : ℕ) (kept kept' heap heap' roots roots' : List ℕ) : Type 0 where
  pub numbers : r ≡ r'
  pub records : kept ≡ kept'
  pub heaps : heap ≡ heap'
  pub roots_same : roots ≡ roots'

module _ {kept heap roots : List ℕ} {k : Step} {r r' : ℕ} {kept₁ kept₂ heap₁ heap₂ roots₁ roots₂ : List ℕ} where
  same_ends : r ≡ r' → Leaves kept heap roots k kept₁ heap₁ roots₁ → Leaves kept heap roots k kept₂ heap₂ roots₂ → Same r r' kept₁ kept₂ heap₁ heap₂ roots₁ roots₂
  same_ends e p q = record {
    numbers = e;
    records = p.kept_is ∙ sym q.kept_is;
    heaps = p.heap_is ∙ sym q.heap_is;
    roots_same = p.roots_are ∙ sym q.roots_are;
  }

  -- a call without values
  pub tells_settled : TellsCall kept heap roots k r kept₁ heap₁ roots₁ → TellsCall kept heap roots k r' kept₂ heap₂ roots₂ → Same r r' kept₁ kept₂ heap₁ heap₂ roots₁ roots₂
  tells_settled p q = same_ends (p.number ∙ sym q.number) p.leaves q.leaves

  -- a call with values: the lent words too
  pub says_settled : {out out₁ out₂ : List ℕ} → SaysCall kept heap roots k out r kept₁ heap₁ roots₁ out₁ → SaysCall kept heap roots k out r' kept₂ heap₂ roots₂ out₂
      → Same r r' kept₁ kept₂ heap₁ heap₂ roots₁ roots₂ × (out₁ ≡ out₂)
  says_settled p q = (same_ends (p.says.number ∙ sym q.says.number) p.leaves q.leaves, p.says.words ∙ sym q.says.words)

-- the collect call: marks and tables too
pub record SameTables (marks marks' live live' offsets offsets' : List ℕ) : Type 0 where
  pub marks_same : marks ≡ marks'
  pub lives : live ≡ live'
  pub offsets_same : offsets ≡ offsets'

pub collect_settled : {kept heap roots : List ℕ} {b : Brought} {r r' : ℕ} {kept₁ kept₂ heap₁ heap₂ roots₁ roots₂ marks₁ marks₂ live₁ live₂ offsets₁ offsets₂ out out₁ out₂ : List ℕ}
    → SaysCollect kept heap roots b out r kept₁ heap₁ roots₁ marks₁ live₁ offsets₁ out₁ → SaysCollect kept heap roots b out r' kept₂ heap₂ roots₂ marks₂ live₂ offsets₂ out₂
    → (Same r r' kept₁ kept₂ heap₁ heap₂ roots₁ roots₂ × (out₁ ≡ out₂)) × SameTables marks₁ marks₂ live₁ live₂ offsets₁ offsets₂
collect_settled p q = (
  says_settled p.says q.says,
  record {
    marks_same = p.tables.marks_are ∙ sym q.tables.marks_are;
    lives = p.tables.live_is ∙ sym q.tables.live_is;
    offsets_same = p.tables.offsets_are ∙ sym q.tables.offsets_are;
  },
)

-- ## The record
-- as found on a refusal, with heap and roots
pub refused_as_found : (kept heap roots : List ℕ) (k : Step) (n p r : ℕ) (kept' heap' roots' : List ℕ) → step (memory kept heap roots) k ≡ refused n p
    → r ≡ code (said_by (memory kept heap roots) k) → Leaves kept heap roots k kept' heap' roots' → Same r (n + 256 * p) kept' kept heap' heap roots' roots
refused_as_found kept heap roots k n p r kept' heap' roots' e c l = record {
  numbers = c ∙ rw e;
  records = l.kept_is ∙ rw e (put_back kept);
  heaps = l.heap_is ∙ rw e;
  roots_same = l.roots_are ∙ rw e;
}

-- always, from word 2 on
pub rest_stays : (kept heap roots : List ℕ) (k : Step) (kept' heap' roots' : List ℕ) → Leaves kept heap roots k kept' heap' roots'
    → (i : ℕ) → 2 ≤ i → get_or kept' i 0 ≡ get_or kept i 0
rest_stays kept heap roots k kept' heap' roots' l i h =
    let s = (after_it (memory kept heap roots) k).store in
    rw l.kept_is (get_or-set_other (set kept 0 s.top) 1 i s.calls 0 (omega (arith, h)) ∙ get_or-set_other kept 0 i s.top 0 (omega (arith, h)))
