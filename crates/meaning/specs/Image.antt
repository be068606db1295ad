-- The image of a heap, and what the program prints for the bytes that it reads.
use Rattle.std.specs.Prelude.{ℕ, ◌+◌, ◌*◌, ◌/◌, ◌%◌, Bool, ◌&&◌, List, map, leb, eqb, length, get_or, replicate}
use Rattle.meaning.specs.Limits.{blocks_of}
use Rattle.meaning.specs.Answers.{Answer, gives, refused}
use Rattle.meaning.specs.Places.{up_to}
use Rattle.meaning.specs.Collect.{After, collect}
use Rattle.meaning.specs.Calls.{need}
use Rattle.meaning.specs.Text.{refused_line, lines}

-- The program's own limits; they stay where they are when the library's grow.
abbrev pub most_words : ℕ
most_words = 8192

abbrev pub most_roots : ℕ
most_roots = 64

abbrev pub most_steps : ℕ
most_steps = 128

-- word number i of the bytes b, the least byte first
unfoldable pub word_at : List ℕ → ℕ → ℕ
word_at b i =
    get_or b (4 * i) 0 + 256 * get_or b (4 * i + 1) 0 + 65536 * get_or b (4 * i + 2) 0 + 16777216 * get_or b (4 * i + 3) 0

-- words number i and i + 1 as one of 64 bits, the low half first
abbrev pub pair_at : List ℕ → ℕ → ℕ
pair_at b i = word_at b i + 4294967296 * word_at b (i + 1)

-- n words, or n pairs of words, from word number s on
abbrev pub words_from : List ℕ → ℕ → ℕ → List ℕ
words_from b s n = map (λ i. word_at b (s + i)) (up_to n)

abbrev pub pairs_from : List ℕ → ℕ → ℕ → List ℕ
pairs_from b s n = map (λ i. pair_at b (s + 2 * i)) (up_to n)

-- the ten words: 1, the top, then start and length for heap, roots, marks and order
pub record Contents : Type 0 where
  pub kind : ℕ
  pub top : ℕ
  pub heap : ℕ
  pub words : ℕ
  pub roots : ℕ
  pub slots : ℕ
  pub marks : ℕ
  pub halves : ℕ
  pub order : ℕ
  pub steps : ℕ

unfoldable pub contents_of : List ℕ → Contents
contents_of b = record {
  kind = word_at b 0;
  top = word_at b 1;
  heap = word_at b 2;
  words = word_at b 3;
  roots = word_at b 4;
  slots = word_at b 5;
  marks = word_at b 6;
  halves = word_at b 7;
  order = word_at b 8;
  steps = word_at b 9;
}

-- the bodies follow one another without gaps from word 10, and the marks are whole words of 64 bits
abbrev pub shaped : Contents → Bool
shaped c =
    eqb c.kind 1
    && (eqb c.heap 10
    && (eqb c.roots (c.heap + c.words)
    && (eqb c.marks (c.roots + c.slots)
    && (eqb c.order (c.marks + c.halves) && eqb (c.halves % 2) 0))))

-- 1, from the contents alone
abbrev pub sized : Contents → Bool
sized c =
    leb c.words most_words
    && (leb c.top c.words
    && (leb c.slots most_roots && (eqb (c.halves / 2) (blocks_of c.words) && leb c.steps most_steps)))

-- what an image holds
pub record Image : Type 0 where
  pub top : ℕ
  pub heap : List ℕ
  pub roots : List ℕ
  pub marks : List ℕ
  pub order : List ℕ

abbrev pub image_of : List ℕ → Contents → Image
image_of b c = record {
  top = c.top;
  heap = words_from b c.heap c.words;
  roots = words_from b c.roots c.slots;
  marks = pairs_from b c.marks (c.halves / 2);
  order = words_from b c.order c.steps;
}

-- 14 for contents of another shape, 1, and 14 for bodies that are short or followed by anything
unfoldable pub judged_contents : List ℕ → Answer Contents
judged_contents b =
    let c = contents_of b in
    need (leb 40 (length b)) 14 0
    (need (shaped c) 14 0
    (need (sized c) 1 0
    (need (eqb (length b) (4 * (c.order + c.steps))) 14 0 (gives c))))

-- the collection of an image, with tables that are all zero at first
unfoldable pub collection_of : Image → After
collection_of i =
    let blocks = blocks_of (length i.heap) in
    collect i.heap i.top i.roots i.marks i.order (replicate blocks 0) (replicate blocks 0)

abbrev pub lines_of : After → List ℕ
lines_of a = lines a.answer a.heap a.roots

abbrev pub printed_for : List ℕ → Answer Contents → List ℕ
printed_for b (refused n p) = refused_line n p
printed_for b (gives c) = lines_of (collection_of (image_of b c))

-- what the program prints for the bytes b
unfoldable pub printed : List ℕ → List ℕ
printed b = printed_for b (judged_contents b)
