-- What an image has that the judge accepts. Assumes nothing.
use Prim.Native.Nat.{ℕ, ◌+◌, ◌*◌}
use mathlib.Core.Path.{◌≡◌, refl, subst}
use mathlib.Core.Bool.{Bool, true, false}
use mathlib.Core.List.{List}
use Rattle.std.proofs.Common.{rules, tests}
use lib.Dec.{eqb, leb}
use lib.ListN.{length}
use Rattle.meaning.specs.Answers.{Answer, gives}
use Rattle.meaning.specs.Calls.{need}
use Rattle.meaning.specs.Image.{Contents, contents_of, shaped, sized, judged_contents}
use Rattle.image.specs.Judging.{Fitting}

-- what is given although a test could refuse it
passed : (test : Bool) (n p : ℕ) (a : Answer Contents) (t : Contents) → need test n p a ≡ gives t → (test ≡ true) × (a ≡ gives t)
passed true n p a t e = (refl, e)
passed false n p a t e = absurd cc

-- shape, sizes and length that pass the tests
fits : (bytes : List ℕ) (t : Contents) → shaped t ≡ true → sized t ≡ true → eqb (length bytes) (4 * (t.order + t.steps)) ≡ true → Fitting bytes t
fits bytes t shape sizes end = search (rules, tests)

pub accepted : (bytes : List ℕ) (t : Contents) → judged_contents bytes ≡ gives t → Fitting bytes t
unfolding judged_contents
accepted bytes t e =
    let c = contents_of bytes in
    let end = eqb (length bytes) (4 * (c.order + c.steps)) in
    let p₁ = passed (leb 40 (length bytes)) _ _ _ t e in
    let p₂ = passed (shaped c) _ _ _ t p₁.1 in
    let p₃ = passed (sized c) _ _ _ t p₂.1 in
    let p₄ = passed end _ _ _ t p₃.1 in
    let same : c ≡ t = cc p₄.1 in
    subst (Fitting bytes) same (fits bytes c p₂.0 p₃.0 p₄.0)
