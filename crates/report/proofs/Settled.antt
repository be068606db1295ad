-- The promise of the report settles its answer, the text's buffer and the mark bitmap. Assumes nothing.
use mathlib.Core.Path.{◌≡◌, sym, ap, ap₂, ◌∙◌}
use mathlib.Core.List.{List, ◌++◌}
use Prim.Native.Nat.{ℕ}
use contract.Lifetimes.{Lfts}
use denote.Ref.{Bor, MutBor}
use lib.ListN.{take, drop, take-append-drop}
use Rattle.meaning.specs.Image.{printed}
use Rattle.report.specs.Reports.{Reports}
use Rattle.report.proofs.answer.Reads as answer

-- ## Two ends
pub record Same (r s : ℕ) (m m' o o' : List ℕ) : Type 0 where
  pub answers : r ≡ s
  pub marks_same : m ≡ m'
  pub texts : o ≡ o'

-- the buffer is the text, and then what it held
buffer_is : {text wanted marks before after : List ℕ} {r : ℕ} → Reports text wanted marks before after r → after ≡ text ++ drop r before
buffer_is {after = after} {r = r} p = sym (take-append-drop r after) ∙ ap₂ (λ (a b : List ℕ). a ++ b) p.written p.rest

same_ends : {text wanted before m m' o o' : List ℕ} {r s : ℕ} → Reports text wanted m before o r → Reports text wanted m' before o' s → Same r s m m' o o'
same_ends {text = text} {before = before} {r = r} {s = s} p q =
    let e : r ≡ s = p.ends ∙ sym q.ends in
    record { answers = e; marks_same = p.marks_are ∙ sym q.marks_are; texts = buffer_is p ∙ ap (λ (k : ℕ). text ++ drop k before) e ∙ sym (buffer_is q) }

module _ (κs : Lfts 3) (bytes : Bor (List ℕ)) (marks out : MutBor (List ℕ)) where
  -- the call ends with answer r, and bitmap and buffer hold m and o
  abbrev pub Answer : ℕ → MutBor (List ℕ) → MutBor (List ℕ) → Type 0
  Answer r m o = answer.Post κs (bytes, (marks, (out, tt))) r (bytes, (m, (o, tt)))

  -- two ends of one call are the same
  pub answer_settled : (r s : ℕ) (m m' o o' : MutBor (List ℕ)) → Answer r m o → Answer s m' o' → Same r s m.now m'.now o.now o'.now
  answer_settled r s m m' o o' p q = same_ends p.1 q.1

  -- what is written first is what is to be printed
  pub printed_first : (r : ℕ) (m o : MutBor (List ℕ)) → Answer r m o → take r o.now ≡ printed bytes.now
  printed_first r m o p = p.1.written
