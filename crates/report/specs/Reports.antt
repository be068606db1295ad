-- What the report on an image is: a text in the buffer lent for it, and the mark bitmap afterwards.
use Rattle.std.specs.Prelude.{ℕ, ◌+◌, ◌*◌, ◌/◌, ◌≡◌, List, ◌++◌, length, take, drop}
use Rattle.meaning.specs.Limits.{blocks_of}
use Rattle.meaning.specs.Answers.{Answer, gives, refused}
use Rattle.meaning.specs.Image.{most_words, most_roots, Contents, image_of, judged_contents, collection_of}

-- words of a mark bitmap for the largest heap
abbrev pub most_blocks : ℕ
most_blocks = blocks_of most_words

-- the longest text: ten digits and a space for each heap word and each root, and at most 66 more
abbrev pub most_text : ℕ
most_text = 66 + 11 * most_words + 11 * most_roots

-- the image's marks come first in the program's bitmap, and are there as the collection leaves them
abbrev pub marks_for : List ℕ → List ℕ → Answer Contents → List ℕ
marks_for bytes marks (refused n p) = marks
marks_for bytes marks (gives t) = (collection_of (image_of bytes t)).marks ++ drop (t.halves / 2) marks

-- the program's bitmap after the report; where the contents are refused, as found
unfoldable pub marks_after : List ℕ → List ℕ → List ℕ
marks_after bytes marks = marks_for bytes marks (judged_contents bytes)

-- the text is written from the buffer's start, r long, and the rest of the buffer is as found; the marks are those wanted
pub record Reports (text wanted marks before after : List ℕ) (r : ℕ) : Type 0 where
  pub ends : r ≡ length text
  pub written : take r after ≡ text
  pub rest : drop r after ≡ drop r before
  pub marks_are : marks ≡ wanted
