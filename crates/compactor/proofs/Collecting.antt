-- What the phases leave, one after the other, is meaning's collection: answer and every buffer. Assumes nothing.
use mathlib.Core.Path.{◌≡◌, refl, sym, ap, ap₂, ◌∙◌, subst, fun_ext}
use mathlib.Core.Bool.{Bool, true, false, ◌&&◌}
use mathlib.Core.Logic.{◌⊎◌, ⊎_elim}
use mathlib.Core.List.{List, ◌++◌, map}
use Prim.Native.Nat.{ℕ, ◌-◌, ◌*◌, ◌/◌, ◌≤◌, ◌<◌}
use native.Mathlib.Omega.{arith}
use lib.ListN.{length, get_or, drop, replicate}
use Rattle.meaning.specs.Limits.{block_words, blocks_of}
use Rattle.meaning.specs.Answers.{gives, refused}
use Rattle.meaning.specs.Values.{is_ref, place_of}
use Rattle.meaning.specs.Places.{places_from, below, marked, bitmap}
use Rattle.meaning.specs.Objects.{encode, parse}
use Rattle.meaning.specs.Slide.{kept, new_place, fix_word, slide, live_at, field_at}
use Rattle.meaning.specs.Blocks.{run}
use Rattle.meaning.specs.Collect.{sizes_fit, tables_fit, judged, checked, offset_table, collect}
use Rattle.meaning.proofs.Deciding.{le_or_lt, true_or_false, and_both}
use Rattle.meaning.proofs.Counting.{below-few}
use Rattle.meaning.proofs.Bitmaps.{marked_out, marked-bitmap, length-bitmap}
use Rattle.meaning.proofs.Bridge.{live-low, field-low, header_low}
use Rattle.meaning.proofs.ChecksPassed.{Sound, checked-sound}
use Rattle.meaning.proofs.CollectedHeap.{Fixed, Zeroed, roots_fixed, fields-fixed, heap-collected}
use Rattle.meaning.proofs.LookupsInverse.{Exact, tables-exact}
use Rattle.meaning.proofs.MarkedObjects.{marked-objects}
use Rattle.meaning.proofs.OrderJudged.{judge_keeps}
use Rattle.blocks.specs.Cursors.{live_places}
use Rattle.fixing.specs.Fixable.{RefersWithin}
use Rattle.std.proofs.Common.{Ok, Err}
use Rattle.refusals.specs.Paper.{number_of, place_of as reported}
use Rattle.refusals.specs.declared.Refusal.{Refusal}
use Rattle.refusals.specs.declared.Refusal.TheVariants.{Sizes}
use Rattle.compactor.specs.declared.Totals.{Totals}
use Rattle.compactor.specs.Collects.{collected_totals, Collects}
use Rattle.compactor.specs.Phases.{Sorted, References, Finishable, Finished}
use Rattle.compactor.proofs.Preparing.{Fit, fit-sizes, fit-tables, places_cut}

-- ## Refused
module _ (heap : List ℕ) (top : ℕ) (roots marks order live offsets : List ℕ) where
  pub collects_unfit : sizes_fit heap top roots marks && tables_fit heap order live offsets ≡ false
      → Collects (collect heap top roots marks order live offsets) (Err Sizes) heap roots marks live offsets
  unfolding collect checked
  collects_unfit e = rw e (record { answer_is = refl; heap_is = refl; roots_are = refl; marks_are = refl; live_is = refl; offsets_are = refl })

module _ {heap : List ℕ} {top : ℕ} {roots marks order live offsets : List ℕ} (f : Fit heap top roots marks order live offsets) where
  unsound : (live' offsets' : List ℕ) (e : Refusal)
      → (judged heap top roots marks (parse heap top) ≡ refused (number_of e) (reported e)) × (live' ≡ live) × (offsets' ≡ offsets)
      → Collects (collect heap top roots marks order live offsets) (Err e) heap roots marks live' offsets'
  unfolding collect checked
  unsound live' offsets' e (refusal, l, o) =
      rw (f.sizes, f.tables, refusal) (record { answer_is = refl; heap_is = refl; roots_are = refl; marks_are = refl; live_is = l; offsets_are = o })

  misordered : (live' offsets' : List ℕ) (e : Refusal) → Sorted heap top roots marks order live live' offsets' (Err e)
      → Collects (collect heap top roots marks order live offsets) (Err e) heap roots marks live' offsets'
  unfolding collect checked
  misordered live' offsets' e s =
      let (i, is, (rest, breaks)) = s.says in
      rw (f.sizes, f.tables, s.sound, breaks, is)
      (record {
        answer_is = refl;
        heap_is = refl;
        roots_are = refl;
        marks_are = refl;
        live_is = s.tabled.bits;
        offsets_are = s.tabled.entries ∙ ap (offset_table (live_at (marked marks) s.objects)) (sym (fit-tables f).same);
      })

  -- refused by 2 to 6, whatever else is known of a sorted heap
  pub collects_refused : (live' offsets' : List ℕ) (e : Refusal) {Known : Sorted heap top roots marks order live live' offsets' (Err e) → Type 0}
      → ((judged heap top roots marks (parse heap top) ≡ refused (number_of e) (reported e)) × (live' ≡ live) × (offsets' ≡ offsets))
      ⊎ ((s : Sorted heap top roots marks order live live' offsets' (Err e)) × Known s)
      → Collects (collect heap top roots marks order live offsets) (Err e) heap roots marks live' offsets'
  collects_refused live' offsets' e p = ⊎_elim (unsound live' offsets' e) (λ x. misordered live' offsets' e x.0) p

-- ## Accepted
module _ {heap : List ℕ} {top : ℕ} {roots marks order live₀ offsets₀ : List ℕ} (f : Fit heap top roots marks order live₀ offsets₀)
    {live offsets refs : List ℕ} {total : ℕ} (s : Sorted heap top roots marks order live₀ live offsets (Ok total))
    (h : References heap (marked marks) s.objects refs) where
  abbrev m : ℕ → Bool
  m = marked marks

  abbrev t : ℕ → Bool
  t = live_at m s.objects

  abbrev n : ℕ
  n = length live₀

  room : top ≤ length heap
  room = (fit-sizes f).room

  is-sound : Sound heap top roots marks s.objects
  unfolding checked
  is-sound = (checked-sound heap top roots marks s.objects true s.sound).1

  low : (p : ℕ) → t p ≡ true → p < top
  low = live-low heap top s.objects room is-sound.parsed m

  far : top ≤ block_words * n
  far = omega (arith, (fit-tables f).covers, room)

  long : length live ≡ n
  long = ap length s.tabled.bits ∙ length-bitmap t n

  -- the live table marks just the live places
  live_same : marked live ≡ t
  live_same = fun_ext (λ q. ap (λ (l : List ℕ). marked l q) s.tabled.bits ∙ ⊎_elim
      (λ (h : block_words * n ≤ q). marked_out (bitmap t n) q (omega (arith, length-bitmap t n)) ∙ ⊎_elim (λ e. absurd (omega (arith, low q e, far))) (λ e. sym e) (true_or_false (t q)))
      (λ (h : q < block_words * n). marked-bitmap t n q h)
      (le_or_lt (block_words * n) q))

  pub sorted_exact : Exact live offsets
  sorted_exact = rw (s.tabled.bits, s.tabled.entries) (tables-exact t n (fit-tables f).few)

  -- a place with a mark has an entry in the tables
  within-tables : (p : ℕ) → m p ≡ true → p / block_words < length live
  within-tables p e = omega (arith, header_low heap top s.objects room is-sound.parsed p (is-sound.at_headers p e), far, long)

  refers : (q : ℕ) → marked refs q ≡ true → RefersWithin live heap q
  refers q e =
      let (field, ref) = and_both (field_at m s.objects q) (is_ref (get_or heap q 0)) (sym (h.holds_ref q) ∙ e) in
      let below_top = field-low heap top s.objects room is-sound.parsed m q field in
      record { in_heap = omega (arith, room); holds_ref = ref; target = within-tables (place_of (get_or heap q 0)) (is-sound.fields_marked q below_top field ref) }

  all_live : below (marked live) (block_words * length live) ≡ total
  unfolding below
  all_live = rw (live_same, long) (ap length (places_cut t top (block_words * n) far low) ∙ sym s.says.1)

  pub sorted_finishable : Finishable heap top roots marks order live refs total
  unfolding below
  sorted_finishable = record {
    slidable = record {
      room = room;
      roots_fixable = record { targets = λ i h r. within-tables (place_of (get_or roots i 0)) (is-sound.roots_marked i h r) };
      fields_fixable = record { covered = omega (arith, (fit-tables f).covers, long); refers = refers };
      movable = record { few = omega (arith, (fit-tables f).few, long); inside = λ p e. omega (arith, low p (ap (λ (u : ℕ → Bool). u p) (sym live_same) ∙ e), room); all = sym all_live };
      within = λ i h. rw s.says.1 ((judge_keeps (places_from t 0 top) order s.says.0).within i h);
    };
    few = (fit-sizes f).few;
    small = omega (arith, s.says.1, below-few t top, room, (fit-sizes f).small);
  }

  places_same : live_places live ≡ places_from t 0 top
  places_same = rw (live_same, long) (places_cut t top (block_words * n) far low)

  refs_same : marked refs ≡ (λ q. field_at m s.objects q && is_ref (get_or heap q 0))
  refs_same = fun_ext h.holds_ref

  fixed_same : (h : List ℕ) → Fixed (marked refs) (below (marked live)) heap h → Fixed (λ q. field_at m s.objects q && is_ref (get_or heap q 0)) (below t) heap h
  fixed_same h x = subst (λ (u : ℕ → Bool). Fixed u (below t) heap h) refs_same (subst (λ (u : ℕ → Bool). Fixed (marked refs) (below u) heap h) live_same x)

  -- no field is at the top or above
  fixed-above : (h : List ℕ) → Fixed (λ q. field_at m s.objects q && is_ref (get_or heap q 0)) (below t) heap h → (q : ℕ) → top ≤ q → get_or h q 0 ≡ get_or heap q 0
  fixed-above h x q l = x.word q ∙ ⊎_elim
      (λ e. absurd (omega (arith, field-low heap top s.objects room is-sound.parsed m q e)))
      (λ e. rw e)
      (true_or_false (field_at m s.objects q))

  module _ {heap' roots' marks' : List ℕ} {r : Totals} (d : Finished heap top roots marks order live refs total heap' roots' marks' r) where
    slid-heap : heap' ≡ encode (slide m s.objects) ++ (replicate (top - below t top) 0 ++ drop top heap)
    slid-heap =
        let x = fixed_same d.slid.fixed_heap d.slid.fixed in
        heap-collected heap top roots marks s.objects room is-sound d.slid.fixed_heap (run (live_places live) order d.slid.fixed_heap) heap' order
        x.long (fields-fixed heap top roots marks s.objects room is-sound d.slid.fixed_heap x) (fixed-above d.slid.fixed_heap x) s.says.0
        (ap (λ (places : List ℕ). run places order d.slid.fixed_heap) places_same)
        (subst (λ (l : ℕ). Zeroed l top (run (live_places live) order d.slid.fixed_heap) heap') s.says.1 d.slid.zeroed)

    slid-roots : roots' ≡ map (fix_word (new_place m 0 s.objects)) roots
    slid-roots =
        d.roots_fixed ∙ ap (λ (u : ℕ → Bool). map (fix_word (below u)) roots) live_same ∙ roots_fixed heap top roots marks s.objects room is-sound

    totals : collected_totals (Ok r) ≡ gives (record { top = below t top; objects = length (kept m 0 s.objects); blocks = blocks_of (below t top) })
    totals =
        ap (λ (x : Totals). collected_totals (Ok x)) d.answered
        ∙ ap₂ (λ (l o : ℕ). gives (record { top = l; objects = o; blocks = blocks_of l })) s.says.1
        (marked-objects heap top marks s.objects room is-sound.parsed is-sound.at_headers (fit-sizes f).covers)

    pub collects-done : Collects (collect heap top roots marks order live₀ offsets₀) (Ok r) heap' roots' marks' live offsets
    unfolding collect checked
    collects-done =
        rw (f.sizes, f.tables, s.sound, s.says.0)
        (record {
          answer_is = totals;
          heap_is = slid-heap;
          roots_are = slid-roots;
          marks_are = d.marks_cleared;
          live_is = s.tabled.bits;
          offsets_are = s.tabled.entries ∙ ap (offset_table t) (sym (fit-tables f).same);
        })
