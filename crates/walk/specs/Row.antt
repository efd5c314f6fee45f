-- A layer's row in the table (RULES 8.1): how many words it has, and which word is what. A change of the row changes this page, and
-- `put_row`, which writes one. Assumes nothing.
--   row_length       how many words
--   head_word, ..    the place of each in its row, counted from 0
--   row_of ..         a row, by its words
--   most_layer_words  the most words that a layer can need
use Rattle.std.specs.Prelude.{List, [], ◌∷◌, ℕ, ◌+◌, ◌*◌}

-- RULES 8.1: the H record, nodes, lines, areas, letters
abbrev pub row_length : ℕ
row_length = 5

abbrev pub head_word : ℕ
head_word = 0

abbrev pub nodes_word : ℕ
nodes_word = 1

abbrev pub lines_word : ℕ
lines_word = 2

abbrev pub areas_word : ℕ
areas_word = 3

abbrev pub letters_word : ℕ
letters_word = 4

abbrev pub row_of : ℕ → ℕ → ℕ → ℕ → ℕ → List ℕ
row_of head nodes lines areas letters = head ∷ nodes ∷ lines ∷ areas ∷ letters ∷ []

-- RULES 8.2: its row, and a word for each line and each area: two numbers of at most six digits
abbrev pub most_layer_words : ℕ
most_layer_words = row_length + 2 * 999999
