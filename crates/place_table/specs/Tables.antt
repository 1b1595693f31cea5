-- What clauses see of a table.
use Rattle.std.specs.Prelude.{ℕ}
use Rattle.place_words.specs.declared.words.Words.{Words}
use Rattle.place_words.specs.declared.view.View.{View}
use Rattle.place_words.specs.Alone.{left_by}
use Rattle.place_table.specs.declared.table.Table.{Table}

abbrev pub words_of : {F T : Type 0} → Table F T → Words F T
words_of t = t.words

-- the words that the log of a lone seat leaves
abbrev pub words_left : {T : Type 0} → View T → ℕ → ℕ
words_left v = left_by v.log
