-- The promise of each lookup settles its answer; on exact tables the two lookups undo each other. Assumes nothing.
use mathlib.Core.Path.{◌≡◌, refl, sym, ◌∙◌}
use mathlib.Core.List.{List}
use Prim.Native.Nat.{ℕ}
use contract.Lifetimes.{Lfts}
use denote.Ref.{Bor}
use Rattle.meaning.specs.Lookups.{Found, at, none}
use Rattle.meaning.proofs.LookupsInverse.{Exact, new_old, old_new}
use Rattle.std.specs.Prelude.{Option, Some, None, Result, Ok}
use Rattle.refusals.specs.declared.Refusal.{Refusal}
use Rattle.refusals.proofs.OneToOne.{answer_one}
use Rattle.words.specs.declared.Place.{Place}
use Rattle.tables.specs.Paper.{found_of, lookup_answer}
use Rattle.tables.proofs.old_to_new.Reads as old-to-new
use Rattle.tables.proofs.new_to_old.Reads as new-to-old

-- ## One to one
abbrev Lookup : Type 0
Lookup = Result (Option Place) Refusal

abbrev place_found : Found → Option Place
place_found (at p) = Some (record { 0 = p })
place_found none = None

found_back : (r : Option Place) → place_found (found_of r) ≡ r
found_back (Some p) = refl
found_back None = refl

pub lookup_answer_one : (r s : Lookup) → lookup_answer r ≡ lookup_answer s → r ≡ s
lookup_answer_one = answer_one found_of place_found found_back

-- ## What each lookup promises of the tables, its argument and its answer
module _ (κs : Lfts 2) (live offsets : Bor (List ℕ)) where
  abbrev pub OldToNew : Place → Lookup → Type 0
  OldToNew p r = old-to-new.Post κs (live, (offsets, (p, tt))) r (live, (offsets, (p, tt)))

  abbrev pub NewToOld : Place → Lookup → Type 0
  NewToOld n r = new-to-old.Post κs (live, (offsets, (n, tt))) r (live, (offsets, (n, tt)))

  -- ## Two answers that meet a promise are equal
  pub old_to_new_settled : (p : Place) (r s : Lookup) → OldToNew p r → OldToNew p s → r ≡ s
  old_to_new_settled p r s e f = lookup_answer_one r s (e ∙ sym f)

  pub new_to_old_settled : (n : Place) (r s : Lookup) → NewToOld n r → NewToOld n s → r ≡ s
  new_to_old_settled n r s e f = lookup_answer_one r s (e ∙ sym f)

  -- ## There and back, both ways
  module _ (exact : Exact live.now offsets.now) where
    pub there_and_back : (p n : Place) (r : Lookup) → OldToNew p (Ok (Some n)) → NewToOld n r → r ≡ Ok (Some p)
    there_and_back p n r e f = lookup_answer_one r (Ok (Some p)) (f ∙ new_old _ _ exact p.0 n.0 (sym e))

    pub back-and-there : (n p : Place) (r : Lookup) → NewToOld n (Ok (Some p)) → OldToNew p r → r ≡ Ok (Some n)
    back-and-there n p r e f = lookup_answer_one r (Ok (Some n)) (f ∙ old_new _ _ exact n.0 p.0 (sym e))
