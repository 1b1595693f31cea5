-- From the files of the rules to what is asked for.
use Rattle.std.proofs.Common.{◌≡◌, ◌<◌, ◌≤◌, ◌+◌, ℕ, List, [], ◌++◌, length, length-append, map, None, Some, Ok, Err, Vec, Global, Result, Option, inl, inr, IfSome, IfOk, IfErr, OnOk, slice_get, refl, sym, ap, ◌∙◌, subst, arith}
use Rattle.std.proofs.lemmas.Bool.{cases_lt}
use Rattle.std.proofs.lemmas.List.{length-map}
use Rattle.std.proofs.lemmas.Option.{slice_get_within}
use Rattle.core_expressions.specs.Views.{expression_of}
use Rattle.std.specs.Prelude.{MatchResult}
use Rattle.std.specs.declared.alloc.AllocError.{AllocError}
use Rattle.norm_base.specs.Files.{Files, file_of}
use Rattle.normaliser.specs.Loads.{IsFirstEmpty, NoneRewritesEmpty, classifier_of, verbaliser_of}
use Rattle.core_expressions.specs.declared.expressions.Expr.{Expr}
use Rattle.weighted_relations.specs.Expressions.{Expression, Rel}
use Rattle.weighted_relations.specs.Relations.{Cascade, Same}
use Rattle.speak_setup.specs.Setups.{SetupNames, SetupText, outcome_of}
use Rattle.speak_setup.specs.declared.setup.SetupFault.{SetupFault}
use Rattle.speak_setup.specs.declared.setup.SetupFault.TheVariants.{BadLine, Repeated, Missing, Memory as SetupMemory}
use Rattle.thrax_meaning.specs.declared.why.Why.{Why}
use Rattle.thrax_link.specs.Linking.{Linked, Outcome, refuses, exporting}
use Rattle.speak_core.specs.Accepted.{ClassifierOf, RequestAsks, IsOnly, NamesAsk, OrText, PlanOf, RulesOf, VerbaliserOf, absent, all_rules, at_fault, has_both, linked, named, need_of, no_classifier, no_verbaliser, planned, read, rewrites_empty, unlinked, unplanned}
use Rattle.speak_core.specs.Requests.{Request}
use Rattle.speak_core.specs.Loaded.{Builds, Checks, ChecksBy, Finds, FindsPlanned, IsGrammarFile, IsSetupFile, SaySame, SpeaksBy, StopsAs, TellsFirstEmpty, TellsText, expressions_of}
use Rattle.speak_core.specs.Parts.{says_of}
use Rattle.speak_core.specs.Plans.{Plan, rules_of, says_in}
use Rattle.speak_core.specs.Stops.{IsDeviceStop}
use Rattle.speak_core.specs.Texts.{absent_text, empty_text, refusal_text, setup_text}
use Rattle.speak_core.specs.declared.speakers.Loaded.{Loaded}
use Rattle.speak_core.specs.declared.stop.Stop.{Stop}
use Rattle.speak_core.specs.declared.stop.Stop.TheVariants as stop
use Rattle.speak_core.specs.declared.requests.Mode.{Mode}
use Rattle.speak_core.specs.declared.requests.Mode.TheVariants.{Classify, Speak}
use Rattle.speak_core.proofs.Said.{says_alike}

-- refusals

-- what refuses a part refuses the whole
pub stops_through : {A B : Type 0} (P : OrText A → Type 0) (Q : OrText B → Type 0) (s : Stop) → ((text : List ℕ) → IsOnly P (Err text) → IsOnly Q (Err text)) → StopsAs P s → StopsAs Q s
stops_through P Q stop.Words through h = tt
stops_through P Q (stop.Refused text) through h = through text.items h
stops_through P Q stop.Outside through h = tt
stops_through P Q stop.Memory through h = tt
stops_through P Q stop.TooLong through h = tt

-- a refusal that was told
pub refusal_stops : {A : Type 0} (P : OrText A → Type 0) (text : List ℕ) (t : Result (Vec ℕ Global) AllocError) (s : Stop) → MatchResult t (λ found. s ≡ stop.Refused found) (λ none. s ≡ stop.Memory) → IfOk t (λ v. v.items ≡ text) → IsOnly P (Err text) → StopsAs P s
refusal_stops P text (Ok v) s is items o = subst (StopsAs P) (sym is) (subst (λ l. IsOnly P (Err l)) (sym items) o)
refusal_stops P text (Err e) s is items o = subst (StopsAs P) (sym is) tt

-- a stop that a device alone makes tells no refusal
pub device_stops : {A : Type 0} (P : OrText A → Type 0) (s : Stop) → IsDeviceStop s → StopsAs P s
device_stops P stop.Words h = tt
device_stops P (stop.Refused text) h = absurd h
device_stops P stop.Outside h = tt
device_stops P stop.Memory h = tt
device_stops P stop.TooLong h = tt

-- rules of a grammar file

module _ (files : Files) (file : List ℕ) (rules : List (List ℕ)) where
  pub named_only : (exports : List (List ℕ × Expression)) → IsGrammarFile files file exports → (found : OrText (List Expression)) → named file exports rules ≡ found → IsOnly (RulesOf files file rules) found
  named_only exports g found is = record { found = linked exports found g.linked is; only = once } where
    once : (other : OrText (List Expression)) → RulesOf files file rules other → other ≡ found
    once other (unlinked at statement why l) = absurd (let both : refuses at statement why ≡ exporting exports = g.only (refuses at statement why) l in cc)
    once other (linked more f l of) =
        let both : exporting more ≡ exporting exports = g.only (exporting more) l in
        let same : more ≡ exports = cc in
        sym of ∙ (ap (λ x. named file x rules) same ∙ is)

  pub named_stops : (exports : List (List ℕ × Expression)) → IsGrammarFile files file exports → (s : Stop) → TellsText (named file exports rules) s → StopsAs (RulesOf files file rules) s
  named_stops exports g stop.Words h = tt
  named_stops exports g (stop.Refused text) h = named_only exports g (Err text.items) h
  named_stops exports g stop.Outside h = tt
  named_stops exports g stop.Memory h = tt
  named_stops exports g stop.TooLong h = tt

  pub rules_found : (exports : List (List ℕ × Expression)) → IsGrammarFile files file exports → (r : Result (Vec Expr Global) Stop) → IfOk r (λ v. named file exports rules ≡ Ok (expressions_of v)) → IfErr r (TellsText (named file exports rules)) → Finds expressions_of (RulesOf files file rules) r
  rules_found exports g (Ok v) is told = named_only exports g (Ok (expressions_of v)) is
  rules_found exports g (Err s) is told = named_stops exports g s told

  same_refusal : (at at' : List ℕ) (n n' : ℕ) (why why' : Why) → refuses at n why ≡ refuses at' n' why' → ◌≡◌ {A = OrText (List Expression)} (Err (refusal_text at n why)) (Err (refusal_text at' n' why'))
  same_refusal at at' n n' why why' e =
      let a : at ≡ at' = cc in
      let b : n ≡ n' = cc in
      let c : why ≡ why' = cc in
      ap (λ x. Err (refusal_text x n why)) a ∙ ap (λ x. Err (refusal_text at' x why)) b ∙ ap (λ x. Err (refusal_text at' n' x)) c

  pub unlinked_only : (at : List ℕ) (statement : ℕ) (why : Why) → Linked files file (refuses at statement why) → ((other : Outcome) → Linked files file other → other ≡ refuses at statement why) → IsOnly (RulesOf files file rules) (Err (refusal_text at statement why))
  unlinked_only at statement why l only = record { found = unlinked at statement why l; only = once } where
    once : (other : OrText (List Expression)) → RulesOf files file rules other → other ≡ Err (refusal_text at statement why)
    once other (unlinked at' statement' why' m) = same_refusal at' at statement' statement why' why (only (refuses at' statement' why') m)
    once other (linked exports found m is) = absurd (let both : exporting exports ≡ refuses at statement why = only (exporting exports) m in cc)

-- the rules of a setup in a mode

module _ (files : Files) (names : SetupNames) where
  pub unused_only : IsOnly (VerbaliserOf files Classify names) (Ok [])
  unused_only = record { found = refl; only = λ other q. q }

  pub used_only : (file : List ℕ) (found : OrText (List Expression)) → names.verbalizer ≡ Some file → IsOnly (RulesOf files file names.verbalizer_rules) found → IsOnly (VerbaliserOf files Speak names) found
  used_only file found is o = record { found = (file, is, o.found); only = once } where
    once : (other : OrText (List Expression)) → VerbaliserOf files Speak names other → other ≡ found
    once other q =
        let both : Some q.0 ≡ Some file = sym q.1 ∙ is in
        let same : q.0 ≡ file = cc in
        o.only other (subst (λ f. RulesOf files f names.verbalizer_rules other) same q.2)

  module _ (mode : Mode) where
    pub no_classifier_only : (text : List ℕ) → IsOnly (ClassifierOf files names) (Err text) → IsOnly (PlanOf files mode names) (Err text)
    no_classifier_only text o = record { found = no_classifier text o.found; only = once } where
      once : (other : OrText Plan) → PlanOf files mode names other → other ≡ Err text
      once other (no_classifier t c) = (let both : Err t ≡ Err text = o.only (Err t) c in let same : t ≡ text = cc in ap (λ x. Err x) same)
      once other (no_verbaliser es t c v) = absurd (let both : Ok es ≡ Err text = o.only (Ok es) c in cc)
      once other (has_both es vs c v) = absurd (let both : Ok es ≡ Err text = o.only (Ok es) c in cc)

    module _ (es : List Expression) (o : IsOnly (ClassifierOf files names) (Ok es)) where
      pub no_verbaliser_only : (text : List ℕ) → IsOnly (VerbaliserOf files mode names) (Err text) → IsOnly (PlanOf files mode names) (Err text)
      no_verbaliser_only text p = record { found = no_verbaliser es text o.found p.found; only = once } where
        once : (other : OrText Plan) → PlanOf files mode names other → other ≡ Err text
        once other (no_classifier t c) = absurd (let both : Err t ≡ Ok es = o.only (Err t) c in cc)
        once other (no_verbaliser fs t c v) = (let both : Err t ≡ Err text = p.only (Err t) v in let same : t ≡ text = cc in ap (λ x. Err x) same)
        once other (has_both fs vs c v) = absurd (let both : Ok vs ≡ Err text = p.only (Ok vs) v in cc)

      pub both_only : (vs : List Expression) → IsOnly (VerbaliserOf files mode names) (Ok vs) → IsOnly (PlanOf files mode names) (Ok (record { mode = mode; names = names; classifier = es; verbaliser = vs }))
      both_only vs p = record { found = has_both es vs o.found p.found; only = once } where
        once : (other : OrText Plan) → PlanOf files mode names other → other ≡ Ok (record { mode = mode; names = names; classifier = es; verbaliser = vs })
        once other (no_classifier t c) = absurd (let both : Err t ≡ Ok es = o.only (Err t) c in cc)
        once other (no_verbaliser fs t c v) = absurd (let both : Err t ≡ Ok vs = p.only (Err t) v in cc)
        once other (has_both fs ws c v) =
            let first : Ok fs ≡ Ok es = o.only (Ok fs) c in
            let second : Ok ws ≡ Ok vs = p.only (Ok ws) v in
            let same : fs ≡ es = cc in
            let same_too : ws ≡ vs = cc in
            ap (λ x. Ok (record { mode = mode; names = names; classifier = x; verbaliser = ws })) same ∙ ap (λ x. Ok (record { mode = mode; names = names; classifier = es; verbaliser = x })) same_too

-- rewrites of the empty text

first_empty_once : (es : List Expression) (a b : ℕ) → IsFirstEmpty es a → IsFirstEmpty es b → a ≡ b
first_empty_once es a b f g =
    elim (cases_lt a b) [
      | inl low ↦ absurd (g.first a f.expression low f.there f.empty)
      | inr high ↦ elim (cases_lt b a) [
        | inl low ↦ absurd (f.first b g.expression low g.there g.empty)
        | inr same ↦ omega (arith, high, same)
      ]
    ]

module _ (files : Files) (mode : Mode) (names : SetupNames) where
  pub unplanned_only : (text : List ℕ) → IsOnly (PlanOf files mode names) (Err text) → IsOnly (NamesAsk files mode names) (Err text)
  unplanned_only text o = record { found = unplanned text o.found; only = once } where
    once : (other : OrText Plan) → NamesAsk files mode names other → other ≡ Err text
    once other (unplanned t p) = o.only (Err t) p
    once other (rewrites_empty plan n rule p e is) = absurd (let both : Ok plan ≡ Err text = o.only (Ok plan) p in cc)
    once other (planned plan p none) = absurd (let both : Ok plan ≡ Err text = o.only (Ok plan) p in cc)

  module _ (plan : Plan) (o : IsOnly (PlanOf files mode names) (Ok plan)) where
    same_plan : (other : Plan) → PlanOf files mode names (Ok other) → other ≡ plan
    same_plan other p = let both : Ok other ≡ Ok plan = o.only (Ok other) p in cc

    pub empty_only : (n : ℕ) (rule : List ℕ) → IsFirstEmpty (rules_of plan) n → slice_get (all_rules names) n ≡ Some rule → IsOnly (NamesAsk files mode names) (Err (empty_text rule))
    empty_only n rule first is = record { found = rewrites_empty plan n rule o.found first is; only = once } where
      once : (other : OrText Plan) → NamesAsk files mode names other → other ≡ Err (empty_text rule)
      once other (unplanned t p) = absurd (let both : Err t ≡ Ok plan = o.only (Err t) p in cc)
      once other (rewrites_empty more m r p e of) =
          let number : m ≡ n = first_empty_once (rules_of plan) m n (subst (λ x. IsFirstEmpty (rules_of x) m) (same_plan more p) e) first in
          let both : Some r ≡ Some rule = sym of ∙ (ap (slice_get (all_rules names)) number ∙ is) in
          let same : r ≡ rule = cc in
          ap (λ x. Err (empty_text x)) same
      once other (planned more p none) = absurd (subst (λ x. NoneRewritesEmpty (rules_of x)) (same_plan more p) none n first.expression first.there first.empty)

    pub planned_only : NoneRewritesEmpty (rules_of plan) → IsOnly (NamesAsk files mode names) (Ok plan)
    planned_only none = record { found = planned plan o.found none; only = once } where
      once : (other : OrText Plan) → NamesAsk files mode names other → other ≡ Ok plan
      once other (unplanned t p) = absurd (let both : Err t ≡ Ok plan = o.only (Err t) p in cc)
      once other (rewrites_empty more m r p e of) =
          let first = subst (λ x. IsFirstEmpty (rules_of x) m) (same_plan more p) e in
          absurd (none m first.expression first.there first.empty)
      once other (planned more p clear) = ap (λ x. Ok x) (same_plan more p)

    -- what building the rules of a plan comes to
    pub builds_names : (r : Result Loaded Stop) → Builds names plan r → FindsPlanned SpeaksBy (NamesAsk files mode names) r
    builds_names (Ok s) h = record { plan = plan; is_only = planned_only h.1; fits = h.0 }
    builds_names (Err stop.Words) h = tt
    builds_names (Err (stop.Refused text)) h = subst (λ t. IsOnly (NamesAsk files mode names) (Err t)) (sym h.4) (empty_only h.0 h.1 h.2 h.3)
    builds_names (Err stop.Outside) h = tt
    builds_names (Err stop.Memory) h = tt
    builds_names (Err stop.TooLong) h = tt

    -- and what telling their sizes comes to
    pub checks_names : (r : Result (Vec ℕ Global) Stop) → Checks names plan r → FindsPlanned ChecksBy (NamesAsk files mode names) r
    checks_names (Ok s) h = record { plan = plan; is_only = planned_only h.1; fits = h.0 }
    checks_names (Err stop.Words) h = tt
    checks_names (Err (stop.Refused text)) h = subst (λ t. IsOnly (NamesAsk files mode names) (Err t)) (sym h.4) (empty_only h.0 h.1 h.2 h.3)
    checks_names (Err stop.Outside) h = tt
    checks_names (Err stop.Memory) h = tt
    checks_names (Err stop.TooLong) h = tt

-- a normaliser of the rules of a plan
pub built : (plan : Plan) (loaded : Loaded) (es fs : List Expression) → loaded.speaker.mode ≡ plan.mode → es ≡ plan.classifier → fs ≡ plan.verbaliser → Same (classifier_of loaded.speaker.normaliser) (Cascade Rel es) → Same (verbaliser_of loaded.speaker.normaliser) (Cascade Rel fs) → NoneRewritesEmpty (es ++ fs)
    → SpeaksBy plan loaded × NoneRewritesEmpty (rules_of plan)
built plan loaded es fs m p q f g none =
    let n = loaded.speaker.normaliser in
    let c : Same (classifier_of n) (Cascade Rel plan.classifier) = subst (λ l. Same (classifier_of n) (Cascade Rel l)) p f in
    let v : Same (verbaliser_of n) (Cascade Rel plan.verbaliser) = subst (λ l. Same (verbaliser_of n) (Cascade Rel l)) q g in (
      record {
        says = subst (λ k. SaySame (says_of loaded.speaker) (says_in k (Cascade Rel plan.classifier) (Cascade Rel plan.verbaliser))) m (says_alike loaded.speaker.mode (classifier_of n) (Cascade Rel plan.classifier) (verbaliser_of n) (Cascade Rel plan.verbaliser) c v);
        of_plan = record { classifier = c; verbaliser = v };
      },
      subst (λ l. NoneRewritesEmpty (l ++ plan.verbaliser)) p (subst (λ l. NoneRewritesEmpty (es ++ l)) q none),
    )

-- the refusal of a rule of which a rewrite may read the empty text
pub tells_empty : (names : List (List ℕ)) (es : List Expression) (n : ℕ) (rule : List ℕ) (t : Result (Vec ℕ Global) AllocError) (s : Stop) → MatchResult t (λ found. s ≡ stop.Refused found) (λ none. s ≡ stop.Memory) → IfOk t (λ v. v.items ≡ empty_text rule)
    → IsFirstEmpty es n → slice_get names n ≡ Some rule → TellsFirstEmpty names es s
tells_empty names es n rule (Ok v) s is items first there = subst (TellsFirstEmpty names es) (sym is) (n, rule, first, there, items)
tells_empty names es n rule (Err e) s is items first there = subst (TellsFirstEmpty names es) (sym is) tt

-- the number of the first such rule is one of the rules
pub rule_within : (a b : List Expr) (most n : ℕ) → IsFirstEmpty (map expression_of a ++ map expression_of b) n → length a + length b ≤ most → n < most
rule_within a b most n first few =
    let inside = slice_get_within (map expression_of a ++ map expression_of b) n first.expression first.there in
    let all = length-append (map expression_of a) (map expression_of b) in
    let left = length-map a expression_of in
    let right = length-map b expression_of in
    omega (arith, inside, all, left, right, few)

-- the setup

same_text : (files : Files) (name a b : List ℕ) → file_of files name ≡ Some a → file_of files name ≡ Some b → a ≡ b
same_text files name a b e f = let both : Some a ≡ Some b = sym e ∙ f in cc

not_there : (files : Files) (name a : List ℕ) → file_of files name ≡ Some a → file_of files name ≡ None → ⊥
not_there files name a e f = (let both : Some a ≡ None = sym e ∙ f in cc)

module _ (files : Files) (request : Request) where
  pub names_only : (names : SetupNames) → IsSetupFile files request.setup (need_of request.mode) names → (a : OrText Plan) → IsOnly (NamesAsk files request.mode names) a → IsOnly (RequestAsks files request) a
  names_only names s a o = record { found = read s.text names a s.there s.reads o.found; only = once } where
    once : (other : OrText Plan) → RequestAsks files request other → other ≡ a
    once other (absent e) = absurd (not_there files request.setup s.text s.there e)
    once other (at_fault text fault e r) =
        let r' = subst (λ t. SetupText (need_of request.mode) t (Err fault)) (same_text files request.setup text s.text e s.there) r in
        absurd (let both : Err fault ≡ Ok names = s.only (Err fault) r' in cc)
    once other (read text more b e r n) =
        let r' = subst (λ t. SetupText (need_of request.mode) t (Ok more)) (same_text files request.setup text s.text e s.there) r in
        let both : Ok more ≡ Ok names = s.only (Ok more) r' in
        let same : more ≡ names = cc in
        o.only other (subst (λ x. NamesAsk files request.mode x other) same n)

  pub names_found : (names : SetupNames) → IsSetupFile files request.setup (need_of request.mode) names → {B : Type 0} (Fits : Plan → B → Type 0) (r : Result B Stop) → FindsPlanned Fits (NamesAsk files request.mode names) r → FindsPlanned Fits (RequestAsks files request) r
  names_found names s Fits (Ok found) h = record { plan = h.plan; is_only = names_only names s (Ok h.plan) h.is_only; fits = h.fits }
  names_found names s Fits (Err r) h = stops_through (NamesAsk files request.mode names) (RequestAsks files request) r (λ text. names_only names s (Err text)) h

  pub absent_only : file_of files request.setup ≡ None → IsOnly (RequestAsks files request) (Err absent_text)
  absent_only none = record { found = absent none; only = once } where
    once : (a : OrText Plan) → RequestAsks files request a → a ≡ Err absent_text
    once a (absent e) = refl
    once a (at_fault text fault e r) = absurd (not_there files request.setup text e none)
    once a (read text other b e r n) = absurd (not_there files request.setup text e none)

  fault_only : (text : List ℕ) (fault : SetupFault) → file_of files request.setup ≡ Some text → SetupText (need_of request.mode) text (Err fault) → ((other : Result SetupNames SetupFault) → SetupText (need_of request.mode) text other → other ≡ Err fault) → IsOnly (RequestAsks files request) (Err (setup_text fault))
  fault_only text fault is reads only = record { found = at_fault text fault is reads; only = once } where
    once : (a : OrText Plan) → RequestAsks files request a → a ≡ Err (setup_text fault)
    once a (absent e) = absurd (not_there files request.setup text is e)
    once a (at_fault t f e r) =
        let both : Err f ≡ Err fault = only (Err f) (subst (λ x. SetupText (need_of request.mode) x (Err f)) (same_text files request.setup t text e is) r) in
        let same : f ≡ fault = cc in
        ap (λ x. Err (setup_text x)) same
    once a (read t other b e r n) = absurd (let both : Ok other ≡ Err fault = only (Ok other) (subst (λ x. SetupText (need_of request.mode) x (Ok other)) (same_text files request.setup t text e is) r) in cc)

  pub fault_stops : (text : List ℕ) (fault : SetupFault) (t : Result (Vec ℕ Global) AllocError) (s : Stop) → OnOk t (fault ≡ SetupMemory → ⊥) → MatchResult t (λ found. s ≡ stop.Refused found) (λ none. s ≡ stop.Memory) → IfOk t (λ v. v.items ≡ setup_text fault)
      → IfSome (outcome_of (Err fault)) (λ o. SetupText (need_of request.mode) text o) → IfSome (outcome_of (Err fault)) (λ o. (other : Result SetupNames SetupFault) → SetupText (need_of request.mode) text other → other ≡ o)
      → file_of files request.setup ≡ Some text → StopsAs (RequestAsks files request) s
  fault_stops text (BadLine n) t s some is items reads only there = refusal_stops (RequestAsks files request) (setup_text (BadLine n)) t s is items (fault_only text (BadLine n) there reads only)
  fault_stops text (Repeated n) t s some is items reads only there = refusal_stops (RequestAsks files request) (setup_text (Repeated n)) t s is items (fault_only text (Repeated n) there reads only)
  fault_stops text (Missing key) t s some is items reads only there = refusal_stops (RequestAsks files request) (setup_text (Missing key)) t s is items (fault_only text (Missing key) there reads only)
  fault_stops text SetupMemory (Ok v) s some is items reads only there = absurd (some refl)
  fault_stops text SetupMemory (Err e) s some is items reads only there = subst (StopsAs (RequestAsks files request)) (sym is) tt

-- what is known of files that are told

pub both_known : (known : Option Files) {P Q R : Files → Type 0} → IfSome known P → IfSome known Q → ((files : Files) → P files → Q files → R files) → IfSome known R
both_known None p q f = tt
both_known (Some files) p q f = f files p q

-- a shelf that tells the same files
pub known_before : (P : Files → Type 0) (before now : Option Files) → now ≡ before → IfSome now P → IfSome before P
known_before P before now same h = subst (λ k. IfSome k P) same h

where_told : (known : Option Files) {P : Files → Type 0} → ((files : Files) → known ≡ Some files → P files) → IfSome known P
where_told None f = tt
where_told (Some files) f = f files refl

pub refusal_finds : (known : Option Files) (file at : List ℕ) (statement : ℕ) (why : Why) (t : Result (Vec ℕ Global) AllocError) (s : Stop) → MatchResult t (λ found. s ≡ stop.Refused found) (λ none. s ≡ stop.Memory) → IfOk t (λ v. v.items ≡ refusal_text at statement why)
    → ((files : Files) → known ≡ Some files → Linked files file (refuses at statement why)) → ((files : Files) → known ≡ Some files → (other : Outcome) → Linked files file other → other ≡ refuses at statement why)
    → IfSome known (λ files. (rules : List (List ℕ)) → StopsAs (RulesOf files file rules) s)
refusal_finds known file at statement why t s is items l only =
    where_told known (λ files e rules. refusal_stops (RulesOf files file rules) (refusal_text at statement why) t s is items (unlinked_only files file rules at statement why (l files e) (only files e)))

pub grammar_finds : (known : Option Files) (file : List ℕ) (exports : List (List ℕ × Expression)) → ((files : Files) → known ≡ Some files → Linked files file (exporting exports)) → ((files : Files) → known ≡ Some files → (other : Outcome) → Linked files file other → other ≡ exporting exports)
    → IfSome known (λ files. IsGrammarFile files file exports)
grammar_finds known file exports l only = where_told known (λ files e. record { linked = l files e; only = only files e })
