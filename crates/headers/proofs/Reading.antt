-- What a header that was read says of its word. Assumes nothing.
use Rattle.std.proofs.Common.{ℕ, ◌≡◌, ◌/◌, ◌%◌, refl, sym, ap, ◌∙◌, Bool, true, false, cond, eqb, Option, Some, None, unwrap_or}
use Rattle.meaning.specs.Objects.{legal_header}
use Rattle.headers.specs.Paper.{is_record, header_of}
use Rattle.headers.specs.declared.Kind.TheVariants.{Record, Raw}
use Rattle.headers.specs.declared.Header.{Header}

pub record Read (w : ℕ) (h : Header) : Type 0 where
  pub legal : legal_header w ≡ true
  pub count_is : h.count ≡ w / 4
  pub kind_is : is_record h.kind ≡ eqb (w % 4) 0

kind-kept : (b : Bool) → is_record (cond b Record Raw) ≡ b
kind-kept true = refl
kind-kept false = refl

-- the word is a legal header, of this count and kind
pub read_some : (w : ℕ) (h : Header) → header_of w ≡ Some h → Read w h
read_some w h e = go (legal_header w) refl (record { kind = cond (eqb (w % 4) 0) Record Raw; count = w / 4 }) refl refl e
  where
    go : (b : Bool) → legal_header w ≡ b → (said : Header) → said.count ≡ w / 4 → is_record said.kind ≡ is_record (cond (eqb (w % 4) 0) Record Raw)
        → cond b (Some said) None ≡ Some h → Read w h
    go true l said count kind f =
        let same : said ≡ h = ap (λ (o : Option Header). unwrap_or o said) f in
        record {
          legal = l;
          count_is = sym (ap (λ (x : Header). x.count) same) ∙ count;
          kind_is = sym (ap (λ (x : Header). is_record x.kind) same) ∙ kind ∙ kind-kept (eqb (w % 4) 0);
        }
    go false l said count kind f = absurd (cc f)

-- the word is no legal header
pub read_none : (w : ℕ) → header_of w ≡ None → legal_header w ≡ false
read_none w e = go (legal_header w) refl (record { kind = cond (eqb (w % 4) 0) Record Raw; count = w / 4 }) e
  where
    go : (b : Bool) → legal_header w ≡ b → (said : Header) → cond b (Some said) None ≡ None → legal_header w ≡ false
    go true l said f = absurd (cc f)
    go false l said f = l
