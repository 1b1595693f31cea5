-- What clap found for an option that has one parser.
use Rattle.std.proofs.Common.{◌≡◌, ◌∙◌, ◌<◌, ap, ℕ, zero, suc, Bool, true, false, List, [], ◌∷◌, length, Option, Some, None, refl, sym, subst, inl, inr, arith, map}
use Rattle.std.specs.List.{All, slice_index_or}
use Rattle.std.specs.Str.{bytes_eq}
use Rattle.std.specs.Prelude.{option_map, slice_get}
use Rattle.std.specs.Borrow.{Bor}
use Rattle.std.proofs.lemmas.List.Elements.{All-get_or}
use Rattle.std.proofs.lemmas.Slice.Eq.{bytes_eq-Decides}
use Rattle.clap.specs.Facts.{Entry, EntryPasses, HasReading, IsGroupEntry, PassesArg, ValuesPass, parser_of}
use Rattle.clap.specs.Words.{Accepts, Rule, Text, args_of, groups_of, matched_of, one_text, read_as, reading_of, rule_of}
use Rattle.clap.specs.declared.builder.arg.Arg.{Arg}
use Rattle.clap.specs.declared.builder.command.Command.{Command}
use Rattle.clap.specs.declared.builder.value_parser.ValueParser.{ValueParser}
use Rattle.clap.specs.declared.builder.value_parser.Reading.{Reading}
use Rattle.clap.specs.declared.parser.matches.Found.{Found}
use Rattle.clap.specs.declared.parser.matches.MatchedArg.{MatchedArg}
use Rattle.clap.proofs.CallerLemmas.{entry_by_id}

-- each rule of this id has this parser
abbrev pub Parses : Text → ValueParser → List Rule → Type 0
Parses id p [] = Unit {0}
Parses id p (r ∷ rs) = (bytes_eq r.id id ≡ true → (r.parser ≡ Some p) × (r.ignore_case ≡ false)) × Parses id p rs

parses-at : (id : Text) (p : ValueParser) (xs : List Arg) (k : ℕ) (x : Arg) → Parses id p (map rule_of xs)
    → k < length xs → slice_index_or xs k x ≡ x → bytes_eq x.id.now id ≡ true
    → (x.value_parser ≡ Some p) × (x.ignore_case ≡ false)
parses-at id p [] k x own lt at same = absurd (omega arith)
parses-at id p (y ∷ ys) zero x own lt at same =
    let Q : Arg → Type 0 = λ z. bytes_eq z.id.now id ≡ true → (z.value_parser ≡ Some p) × (z.ignore_case ≡ false) in
    subst Q at own.0 same
parses-at id p (y ∷ ys) (suc k) x own lt at same = parses-at id p ys k x own.1 (omega arith) at same

parser_is : (a : Arg) (p : ValueParser) → a.value_parser ≡ Some p → parser_of a ≡ p
parser_is a p is = rw is refl

passes-Accepts : (c : Command) (id : Text) (p : ValueParser) (value : Text) → Parses id p (map rule_of (args_of c)) → PassesArg c id value → Accepts false p value
passes-Accepts c id p value own any =
    let here : (any.1.value_parser ≡ Some p) × (any.1.ignore_case ≡ false) = parses-at id p (args_of c) any.0 any.1 own any.2 any.3 any.4.0 in
    let as_p : Accepts any.1.ignore_case p value =
    subst (λ (q : ValueParser). Accepts any.1.ignore_case q value) (parser_is any.1 p here.0) any.4.1 in
    subst (λ (b : Bool). Accepts b p value) here.1 as_p

reads-how : (c : Command) (id : Text) (p : ValueParser) (how : Reading) → Parses id p (map rule_of (args_of c)) → HasReading c id how → how ≡ reading_of p
reads-how c id p how own any =
    let here : (any.1.value_parser ≡ Some p) × (any.1.ignore_case ≡ false) = parses-at id p (args_of c) any.0 any.1 own any.2 any.3 any.4.0 in
    let is : parser_of any.1 ≡ p = parser_is any.1 p here.0 in
    rw is at (sym any.4.1)

-- a value that is read, and what all values have
first_read : (P : Bor Text → Type 0) (how : Reading) (vs : List (Bor Text)) (text : Text) → All P vs
    → option_map (λ s. read_as how s.now) (slice_get vs 0) ≡ Some text
    → (v : Bor Text) × (text ≡ read_as how v.now) × P v
first_read P how [] text all is = cc
first_read P how (v ∷ vs) text all is = (v, cc, All-get_or P (v ∷ vs) 0 v (omega arith) all)

-- no entry is a group's where the command has no groups
no_group : (c : Command) (e : Entry) → groups_of c ≡ [] → (e.0.now ≡ [] → ⊥) → IsGroupEntry c e → e.1.is_group ≡ true → ⊥
no_group c e none named group is = elim (group is) [
  | inl empty ↦ named empty
  | inr some ↦
      let bad : 0 < 0 = rw none at some in
      absurd (omega arith)
]

of_entry : (c : Command) (e : Entry) (p : ValueParser) → EntryPasses c e → groups_of c ≡ [] → (e.0.now ≡ [] → ⊥)
    → Parses e.0.now p (map rule_of (args_of c)) → (text : Text) → option_map (λ s. read_as e.1.reading s.now) (slice_get e.1.vals.items 0) ≡ Some text
    → (value : Text) × (text ≡ read_as (reading_of p) value) × Accepts false p value
of_entry c e p pass none named own text found =
    let single : e.1.is_group ≡ true → ⊥ = no_group c e none named pass.3 in
    let all : All (λ v. PassesArg c e.0.now v.now) e.1.vals.items = elim pass.0 [ inl group ↦ absurd (single group) | inr vals ↦ vals ] in
    let read : HasReading c e.0.now e.1.reading = elim pass.4 [ inl group ↦ absurd (single group) | inr how ↦ how ] in
    let how : e.1.reading ≡ reading_of p = reads-how c e.0.now p e.1.reading own read in
    let first : (v : Bor Text) × (text ≡ read_as e.1.reading v.now) × PassesArg c e.0.now v.now =
    first_read (λ v. PassesArg c e.0.now v.now) e.1.reading e.1.vals.items text all found in
    (first.0.now, first.1 ∙ ap (λ (h : Reading). read_as h first.0.now) how, passes-Accepts c e.0.now p first.0.now own first.2)

-- the text of an option is read of a value that its parser takes
pub given : (c : Command) (f : Found) (id : Text) (p : ValueParser) → ValuesPass c f → groups_of c ≡ [] → (id ≡ [] → ⊥)
    → Parses id p (map rule_of (args_of c)) → (text : Text) → one_text f id ≡ Some text
    → (value : Text) × (text ≡ read_as (reading_of p) value) × Accepts false p value
given c f id p values no_groups named own text found = go (matched_of f id) refl
  where
    go : (o : Option MatchedArg) → matched_of f id ≡ o
        → (value : Text) × (text ≡ read_as (reading_of p) value) × Accepts false p value
    go None is =
        let bad : None ≡ Some text = rw is at found in
        cc
    go (Some x) is =
        let e = entry_by_id (EntryPasses c) f.entries.items id x values is in
        let key : e.0.0.now ≡ id = (bytes_eq-Decides e.0.0.now id).0 e.2 in
        let own_key : Parses e.0.0.now p (map rule_of (args_of c)) = rw key own in
        let first : option_map (λ s. read_as x.reading s.now) (slice_get x.vals.items 0) ≡ Some text = rw is at found in
        of_entry c e.0 p e.3 no_groups (λ empty. named (sym key ∙ empty)) own_key text (rw e.1 first)
