-- What the private calls answer each other.
use Rattle.std.specs.Prelude.{◌≡◌, ◌<◌, ◌+◌, ℕ, Bool, true, false, List, [], ◌∷◌, ◌++◌, None, Some, Ok, Err, Option, Result, Vec, filter, length, slice_get}
use Rattle.std.specs.declared.alloc.Global.{Global}
use Rattle.weighted_relations.specs.Expressions.{Expression, Rel}
use Rattle.weighted_relations.specs.Least.{Least}
use Rattle.weighted_relations.specs.Machines.{Machine, Reads}
use Rattle.weighted_relations.specs.Relations.{Relation, Same}
use Rattle.grammar_build.specs.Empties.{RewritesEmptyText}
use Rattle.normaliser.specs.Loads.{IsFirstEmpty}
use Rattle.token_record.specs.Meaning.{TokenTree, token_trees}
use Rattle.token_record.specs.Texts.{TokenText, Whole}
use Rattle.token_record.specs.declared.tokens.Token.{Token}
use Rattle.normaliser.specs.Lines.{Answer, HasNoZero, IsFirstZero}
use Rattle.normaliser.specs.Words.{AllSay, HasNoWords, Says, is_some, spaced}
use Rattle.normaliser.specs.declared.faults.LineFault.{LineFault}
use Rattle.normaliser.specs.declared.faults.LineFault.TheVariants.{NulByte, LongLine, NotTokens, Memory}
use Rattle.normaliser.specs.declared.faults.LoadFault.{LoadFault}
use Rattle.normaliser.specs.declared.faults.LoadFault.TheVariants as load

-- each transducer has the readings of its expression
abbrev pub AllReadAs : List Machine → List Expression → Type 0
AllReadAs [] [] = Unit {0}
AllReadAs [] (e ∷ es) = ⊥
AllReadAs (m ∷ ms) [] = ⊥
AllReadAs (m ∷ ms) (e ∷ es) = Same (Reads m) (Rel e) × AllReadAs ms es

-- nothing before a place is of a kind
abbrev pub NoneBefore : {X : Type 0} → (X → Type 0) → List X → ℕ → Type 0
NoneBefore {X} P xs n = (k : ℕ) (x : X) → k < n → slice_get xs k ≡ Some x → P x → ⊥

-- the rule of this number is refused
abbrev pub IsEmptyRule : ℕ → Expression → LoadFault → Type 0
IsEmptyRule number e (load.RewritesEmpty rule) = (rule ≡ number) × RewritesEmptyText e
IsEmptyRule number e load.Memory = Unit {0}

-- the first such rule of these is refused; so many rules come before them
abbrev pub IsFaultAfter : ℕ → List Expression → LoadFault → Type 0
IsFaultAfter before es (load.RewritesEmpty rule) = (k : ℕ) × (rule ≡ before + k) × IsFirstEmpty es k
IsFaultAfter before es load.Memory = Unit {0}

-- the output of the least reading at one of the inputs, or none where there is none
abbrev pub IsOutput : Relation → (List ℕ → Type 0) → Option (Vec ℕ Global) → Type 0
IsOutput R X None = Least R X None
IsOutput R X (Some output) = (weight : ℕ) × Least R X (Some (weight, output.items))

-- why a line isn't looked up
abbrev pub IsUnsearched : List ℕ → LineFault → Type 0
IsUnsearched line (NulByte at) = IsFirstZero line at
IsUnsearched line LongLine = HasNoZero line × (16384 < length line)
IsUnsearched line fault = ⊥

-- the tokens that a text is, or the fault that it is none
abbrev pub AreTokens : List ℕ → Result (Vec Token Global) LineFault → Type 0
AreTokens text (Ok tokens) = TokenText (token_trees tokens.items) text
AreTokens text (Err (NotTokens n)) = Whole text n × ((ts : List TokenTree) → TokenText ts text → ⊥)
AreTokens text (Err Memory) = Unit {0}
AreTokens text (Err fault) = ⊥

-- what is answered of some tokens; want of memory says nothing of them
abbrev pub IsTold : (Answer → Type 0) → Result (Vec ℕ Global) LineFault → Type 0
IsTold says (Ok words) = says (Ok words.items)
IsTold says (Err Memory) = Unit {0}
IsTold says (Err fault) = says (Err fault)

-- a text behind another, with a space between where there is one before it
abbrev pub behind : List ℕ → List ℕ → List ℕ
behind [] own = own
behind (b ∷ before) own = (b ∷ before) ++ 32 ∷ own

-- words, and those of one token more
abbrev pub with_words : List ℕ → List ℕ → List ℕ
with_words before [] = before
with_words before (b ∷ own) = behind before (b ∷ own)

-- the words of these tokens were joined
pub record AreJoined (V : Relation) (tokens : List TokenTree) (words : List ℕ) : Type 0 where
  pub all : List (List ℕ)
  pub say : AllSay V tokens all
  pub joined : words ≡ spaced (filter is_some all)

-- the words of one token more were put behind others, or it has none
abbrev pub IsPut : Relation → TokenTree → List ℕ → List ℕ → Bool → Type 0
IsPut V token before now true = (own : List ℕ) × Says V token own × (now ≡ with_words before own)
IsPut V token before now false = HasNoWords V token
