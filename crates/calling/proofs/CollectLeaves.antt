-- A refused collection leaves heap and roots. Assumes nothing.
use Rattle.std.proofs.Common.{◌≡◌, ℕ, ◌&&◌, List, [], ◌∷◌, refl}
use Rattle.meaning.specs.Answers.{Answer as Answered, gives, refused}
use Rattle.meaning.specs.Objects.{Object}
use Rattle.meaning.specs.Places.{places_from, marked}
use Rattle.meaning.specs.Slide.{live_at}
use Rattle.meaning.specs.Blocks.{order_breaks}
use Rattle.meaning.specs.Collect.{After, collect, collected, ordered, checked, sizes_fit, tables_fit}

-- heap and roots of a refused collection
pub record Left (heap roots : List ℕ) (a : After) : Type 0 where
  pub heap_left : a.heap ≡ heap
  pub roots_left : a.roots ≡ roots

ordered_leaves : (heap : List ℕ) (top : ℕ) (roots marks : List ℕ) (os : List Object) (live offsets breaks : List ℕ) {n p : ℕ} → (ordered heap top roots marks os live offsets breaks).answer ≡ refused n p → Left heap roots (ordered heap top roots marks os live offsets breaks)
ordered_leaves heap top roots marks os live offsets (i ∷ is) e = record { heap_left = refl; roots_left = refl }
ordered_leaves heap top roots marks os live offsets [] e = absurd cc

collected_leaves : (heap : List ℕ) (top : ℕ) (roots marks order live offsets : List ℕ) (x : Answered (List Object)) {n p : ℕ} → (collected heap top roots marks order live offsets x).answer ≡ refused n p → Left heap roots (collected heap top roots marks order live offsets x)
collected_leaves heap top roots marks order live offsets (refused _ _) e = record { heap_left = refl; roots_left = refl }
collected_leaves heap top roots marks order live offsets (gives os) e = ordered_leaves heap top roots marks os _ _ (order_breaks (places_from (live_at (marked marks) os) 0 top) order) e

pub collect_leaves : (heap : List ℕ) (top : ℕ) (roots marks order live offsets : List ℕ) {n p : ℕ} → (collect heap top roots marks order live offsets).answer ≡ refused n p → Left heap roots (collect heap top roots marks order live offsets)
unfolding collect
collect_leaves heap top roots marks order live offsets e = collected_leaves heap top roots marks order live offsets (checked heap top roots marks (sizes_fit heap top roots marks && tables_fit heap order live offsets)) e
