-- What a walk has noted by words, it has noted of the objects. Assumes nothing.
use mathlib.Core.Path.{◌≡◌, sym, ◌∙◌}
use mathlib.Core.Bool.{Bool, true, ◌&&◌}
use mathlib.Core.Logic.{⊎_elim}
use mathlib.Core.List.{List}
use Prim.Native.Nat.{ℕ, ◌≤◌, ◌<◌}
use native.Mathlib.Omega.{arith}
use lib.Dec.{ltb}
use lib.ListN.{length, get_or}
use borrow.Author.Tests.{lt-ltb, le-ltb}
use Rattle.meaning.specs.Values.{is_ref}
use Rattle.meaning.specs.Places.{marked}
use Rattle.meaning.specs.Objects.{Object, all, parse}
use Rattle.meaning.specs.Slide.{header_at, live_at, field_at}
use Rattle.meaning.specs.Words.{starts, live, field}
use Rattle.meaning.proofs.Deciding.{le_or_lt, true_or_false}
use Rattle.meaning.proofs.Bridge.{starts_agree, live-agree, field-agree, header_low, live-low, field-low}
use Rattle.walk.specs.Survey.{Noted}
use Rattle.objects.specs.Examined.{Surveyed}

-- two tests that agree below the top, one of which passes only there
agree : (by-words by-objects : ℕ → Bool) (top : ℕ) → ((q : ℕ) → q < top → by-objects q ≡ by-words q) → ((q : ℕ) → by-objects q ≡ true → q < top)
    → (q : ℕ) → ltb q top && by-words q ≡ by-objects q
agree by-words by-objects top same low q = ⊎_elim
    (λ (h : top ≤ q). rw (le-ltb q top h) (⊎_elim (λ e. absurd (omega (arith, low q e))) (λ e. sym e) (true_or_false (by-objects q))))
    (λ (h : q < top). rw (lt-ltb q top h) (sym (same q h)))
    (le_or_lt top q)

module _ (heap : List ℕ) (top : ℕ) (os : List Object) (room : top ≤ length heap) (parsed : parse heap top ≡ all os) (m : ℕ → Bool)
    (headers words fields : List ℕ) (n : Noted heap m top headers words fields) where
  pub noted_header : (q : ℕ) → marked headers q ≡ header_at os q
  noted_header q = n.is_header q ∙ agree (starts heap) (header_at os) top (starts_agree heap top os room parsed) (header_low heap top os room parsed) q

  pub noted-live : (q : ℕ) → marked words q ≡ live_at m os q
  noted-live q = n.is_live q ∙ agree (live heap m) (live_at m os) top (live-agree heap top os room parsed m) (live-low heap top os room parsed m) q

  pub noted-field : (q : ℕ) → marked fields q ≡ field_at m os q
  noted-field q = n.is_field q ∙ agree (λ q. live heap m q && field heap q) (field_at m os) top (field-agree heap top os room parsed m) (field-low heap top os room parsed m) q

  -- the references among the fields kept
  pub surveyed : (refs : List ℕ) → ((q : ℕ) → marked refs q ≡ marked fields q && is_ref (get_or heap q 0)) → Surveyed heap m os headers words refs
  surveyed refs r = record { is_header = noted_header; is_live = noted-live; holds_ref = λ q. r q ∙ rw (noted-field q) }

  -- a field is within the heap
  pub field-within : (q : ℕ) → marked fields q ≡ true → q < length heap
  field-within q e = omega (arith, field-low heap top os room parsed m q (sym (noted-field q) ∙ e))
