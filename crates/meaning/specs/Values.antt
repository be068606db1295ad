-- Value words: a word is 0 to 2^32 - 1.
use Rattle.std.specs.Prelude.{ℕ, ◌+◌, ◌-◌, ◌*◌, ◌/◌, ◌%◌, Bool, true, not, ◌&&◌, cond, ltb, leb, eqb, ℤ, pos, negsuc, ◌-ℤ◌}
use Rattle.std.specs.Int.Signed.{le_z}
use Rattle.meaning.specs.Answers.{Answer, gives, refused}

-- a small integer, nil, or a reference to a place
pub data Value : Type 0 where
  int : ℤ → Value
  nil : Value
  ref : ℕ → Value

abbrev pub nil_word : ℕ
nil_word = 4294967295

abbrev pub least : ℤ
least = negsuc 1073741823

abbrev pub greatest : ℤ
greatest = pos 1073741823

-- the highest place that a reference can be to
abbrev pub last_place : ℕ
last_place = 2147483646

-- the value of an even word: w / 2 below 2^31, else w / 2 - 2^31
abbrev pub int_of : ℕ → ℤ
int_of w = cond (ltb w 2147483648) (pos (w / 2)) (pos (w / 2) -ℤ pos 2147483648)

-- a reference: odd, and not nil
abbrev pub is_ref : ℕ → Bool
is_ref w = eqb (w % 2) 1 && not (eqb w nil_word)

-- the place that a reference is to
abbrev pub place_of : ℕ → ℕ
place_of w = (w - 1) / 2

abbrev pub ref_to : ℕ → ℕ
ref_to p = 2 * p + 1

-- what a word stands for
unfoldable pub value_of : ℕ → Value
value_of w = cond (eqb (w % 2) 0) (int (int_of w)) (cond (eqb w nil_word) nil (ref (place_of w)))

-- the word that stands for a value
unfoldable pub word_of : Value → ℕ
word_of (int (pos n)) = 2 * n
word_of (int (negsuc n)) = 4294967294 - 2 * n
word_of nil = nil_word
word_of (ref p) = ref_to p

-- integers from the least to the greatest, nil, and references up to the last place have a word
abbrev pub has_word : Value → Bool
has_word (int v) = le_z least v && le_z v greatest
has_word nil = true
has_word (ref p) = leb p last_place

-- making a word of a value; 10 where it has none
unfoldable pub make : Value → Answer ℕ
make v = cond (has_word v) (gives (word_of v)) (refused 10 0)
