-- A kind's number, and the header that a word is.
use Rattle.std.specs.Prelude.{ℕ, Bool, true, false, ◌+◌, ◌*◌, ◌/◌, ◌%◌, cond, eqb, Option, Some, None}
use Rattle.meaning.specs.Objects.{legal_header}
use Rattle.headers.specs.declared.Kind.{Kind}
use Rattle.headers.specs.declared.Kind.TheVariants.{Record, Raw}
use Rattle.headers.specs.declared.Header.{Header}

abbrev pub kind_number : Kind → ℕ
kind_number Record = 0
kind_number Raw = 1

abbrev pub is_record : Kind → Bool
is_record Record = true
is_record Raw = false

abbrev pub word_of : Header → ℕ
word_of h = 4 * h.count + kind_number h.kind

-- kind and count of a legal header
abbrev pub header_of : ℕ → Option Header
header_of w = cond (legal_header w) (Some (record { kind = cond (eqb (w % 4) 0) Record Raw; count = w / 4 })) None
