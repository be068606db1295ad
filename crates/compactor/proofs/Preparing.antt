-- A heap that is found sound, with its tables filled and its order judged, is prepared. Assumes nothing.
use mathlib.Core.Path.{◌≡◌, sym, ap, ◌∙◌, subst, fun_ext}
use mathlib.Core.Bool.{Bool, true, false}
use mathlib.Core.Logic.{⊎_elim, inr}
use mathlib.Core.List.{List, append-nil}
use Prim.Native.Nat.{ℕ, ◌+◌, ◌-◌, ◌*◌, ◌≤◌, ◌<◌}
use native.Mathlib.Omega.{arith}
use lib.Dec.{leb, eqb}
use lib.ListN.{length, replicate}
use borrow.Author.Tests.{leb-true, eqb-true}
use Rattle.meaning.specs.Limits.{block_words, table_entries, order_entries, blocks_of}
use Rattle.meaning.specs.Places.{places_from, marked, bitmap}
use Rattle.meaning.specs.Objects.{Object}
use Rattle.meaning.specs.Slide.{live_at}
use Rattle.meaning.specs.Collect.{sizes_fit, tables_fit, checked, offset_table}
use Rattle.meaning.proofs.Deciding.{and_both, true_or_false}
use Rattle.meaning.proofs.Counting.{places_split, places_none, below_flat}
use Rattle.meaning.proofs.Bitmaps.{marked_zeros}
use Rattle.meaning.proofs.Bridge.{live-low}
use Rattle.meaning.proofs.OrderJudged.{judge-refused}
use Rattle.meaning.proofs.ChecksPassed.{checked-sound}
use Rattle.objects.specs.Examined.{Examined, Surveyed}
use Rattle.std.specs.Bool.{⊤}
use Rattle.std.proofs.Common.{Result, Ok, Err}
use Rattle.refusals.specs.declared.Refusal.{Refusal}
use Rattle.refusals.specs.declared.Refusal.TheVariants.{OrderBreaks}
use Rattle.walk.specs.Survey.{Blank}
use Rattle.walk.specs.declared.Survey.{Survey}
use Rattle.objects.proofs.Sizes.{Sizes, sizes}
use Rattle.compactor.specs.Phases.{OrderSays, Settleable, Settled, Sorted, References, PreparedAs}

-- the sizes of tables that fit
pub record TableSizes (heap live offsets : List ℕ) : Type 0 where
  pub few : length live ≤ table_entries
  pub same : length offsets ≡ length live
  pub covers : length heap ≤ block_words * length live

-- sizes that fit, of all that the collection takes
pub record Fit (heap : List ℕ) (top : ℕ) (roots marks order live offsets : List ℕ) : Type 0 where
  pub sizes : sizes_fit heap top roots marks ≡ true
  pub tables : tables_fit heap order live offsets ≡ true

pub fitting : {heap : List ℕ} {top : ℕ} {roots marks order live offsets : List ℕ} → sizes_fit heap top roots marks ≡ true
    → tables_fit heap order live offsets ≡ true → Fit heap top roots marks order live offsets
fitting s t = record { sizes = s; tables = t }

module _ {heap : List ℕ} {top : ℕ} {roots marks order live offsets : List ℕ} (f : Fit heap top roots marks order live offsets) where
  pub fit-sizes : Sizes heap top roots marks
  fit-sizes = sizes heap top roots marks f.sizes

  pub fit-tables : TableSizes heap live offsets
  fit-tables =
      let (o, r) = and_both (leb (length order) order_entries) _ f.tables in
      let (l, e) = and_both (eqb (length live) (blocks_of (length heap))) (eqb (length offsets) (blocks_of (length heap))) r in
      let a = eqb-true (length live) (blocks_of (length heap)) l in
      let b = eqb-true (length offsets) (blocks_of (length heap)) e in
      let s = fit-sizes in
      record { few = omega arith; same = omega arith; covers = omega arith }

  pub fit-order : length order ≤ order_entries
  fit-order = leb-true (length order) order_entries (and_both (leb (length order) order_entries) _ f.tables).0

  -- nothing is noted at first
  pub fit-blank : (refs : List ℕ) → ((q : ℕ) → marked refs q ≡ false) → Blank heap top (replicate table_entries 0) (replicate table_entries 0) refs
  fit-blank refs blank = record {
    room = fit-sizes.room;
    small = fit-sizes.small;
    no_header = marked_zeros table_entries;
    no_word = marked_zeros table_entries;
    no_field = blank;
  }

-- the live places, from any end at the top or above
module _ (t : ℕ → Bool) (top end : ℕ) (far : top ≤ end) (low : (p : ℕ) → t p ≡ true → p < top) where
  none_past : (p : ℕ) → top ≤ p → t p ≡ false
  none_past p h = ⊎_elim (λ e. absurd (omega (arith, low p e))) (λ e. e) (true_or_false (t p))

  pub places_cut : places_from t 0 end ≡ places_from t 0 top
  places_cut =
      ap (places_from t 0) (let e : end ≡ top + (end - top) = omega arith in e) ∙ places_split t 0 top (end - top)
      ∙ rw (places_none t (0 + top) (end - top) (λ k h. none_past (0 + top + k) (omega arith))) (append-nil (places_from t 0 top))

  says_cut : (order : List ℕ) (r : Result ℕ Refusal) → OrderSays t end order r → OrderSays t top order r
  says_cut order (Ok total) (accepted, all) = (rw (← places_cut) accepted, all ∙ below_flat t top end far (λ r h l. none_past r h))
  says_cut order (Err e) (i, is, (rest, breaks)) = (i, is, (rest, rw (← places_cut) breaks))

module _ {heap : List ℕ} {top : ℕ} {roots marks order live₀ offsets₀ : List ℕ} (f : Fit heap top roots marks order live₀ offsets₀)
    (survey : Survey) (x : Examined heap top roots marks survey (Ok tt)) where
  abbrev m : ℕ → Bool
  m = marked marks

  abbrev t : ℕ → Bool
  t = live_at m x.0

  same : marked survey.words ≡ t
  same = fun_ext x.2.is_live

  low : (p : ℕ) → t p ≡ true → p < top
  unfolding checked
  low p e = live-low heap top x.0 (fit-sizes f).room (checked-sound heap top roots marks x.0 true x.1).1.parsed m p e

  pub sound_settleable : Settleable survey.words order live₀ offsets₀
  sound_settleable =
      let s = fit-tables f in
      record {
        few = s.few;
        same = s.same;
        inside = λ p e. omega (arith, low p (sym (x.2.is_live p) ∙ e), s.covers, (fit-sizes f).room);
        short = fit-order f;
      }

  sorted : (live offsets : List ℕ) (r : Result ℕ Refusal) → Settled survey.words (length live₀) order live offsets r
      → Sorted heap top roots marks order live₀ live offsets r
  sorted live offsets r s = record {
    objects = x.0;
    sound = x.1;
    tabled = record {
      bits = s.tabled.bits ∙ ap (λ (u : ℕ → Bool). bitmap u (length live₀)) same;
      entries = s.tabled.entries ∙ ap (λ (u : ℕ → Bool). offset_table u (length live₀)) same;
    };
    says = says_cut t top (block_words * length live₀) (omega (arith, (fit-tables f).covers, (fit-sizes f).room)) low order r (rw same at s.says);
  }

  -- the order judged, with the survey
  pub prepared : (live offsets : List ℕ) (r : Result ℕ Refusal) → Settled survey.words (length live₀) order live offsets r
      → PreparedAs heap top roots marks order live₀ offsets₀ live offsets survey r
  unfolding sorted
  prepared live offsets (Err e) s = inr (sorted live offsets (Err e) s, x.2)
  prepared live offsets (Ok total) s = (sorted live offsets (Ok total) s, x.2)

-- the references of a survey
pub surveyed_references : {heap : List ℕ} {m : ℕ → Bool} {os : List Object} {headers words refs : List ℕ} → Surveyed heap m os headers words refs
    → References heap m os refs
surveyed_references x = record { holds_ref = x.holds_ref }

-- what was said, once it is known what
pub examined_as : (heap : List ℕ) (top : ℕ) (roots marks : List ℕ) (survey : Survey) (r s : Result ⊤ Refusal) → r ≡ s
    → Examined heap top roots marks survey r → Examined heap top roots marks survey s
examined_as heap top roots marks survey r s e x = subst (Examined heap top roots marks survey) e x

pub prepared_as : (heap : List ℕ) (top : ℕ) (roots marks order live₀ offsets₀ live offsets : List ℕ) (survey : Survey) (r s : Result ℕ Refusal) → r ≡ s
    → PreparedAs heap top roots marks order live₀ offsets₀ live offsets survey r → PreparedAs heap top roots marks order live₀ offsets₀ live offsets survey s
prepared_as heap top roots marks order live₀ offsets₀ live offsets survey r s e x = subst (PreparedAs heap top roots marks order live₀ offsets₀ live offsets survey) e x

-- an order breaks within it or at its end, so the position is small
pub misordered_low : {heap : List ℕ} {top : ℕ} {roots marks order live₀ offsets₀ live offsets : List ℕ} {i : ℕ}
    → Fit heap top roots marks order live₀ offsets₀ → Sorted heap top roots marks order live₀ live offsets (Err (OrderBreaks i)) → i ≤ order_entries
misordered_low {order = order} {i = i} f s =
    let (j, is, (rest, breaks)) = s.says in
    let same : i ≡ j = cc is in
    let b = judge-refused _ order j rest breaks in
    ⊎_elim (λ (low, bad). omega (arith, same, fit-order f)) (λ (fine, other, e). omega (arith, same, fit-order f)) b.here
