use Rattle.std.proofs.Common.{◌≡◌, ◌∙◌, sym, ap, subst, refl, arith, ℕ, ◌-◌, ◌<◌, ◌≤◌, List, [], ◌∷◌, ◌++◌, codes, drop, get_or, length, take}
use Rattle.std.specs.List.{flat_map}
use Rattle.std.proofs.lemmas.List.{take_all}
use Rattle.std.proofs.lemmas.List.Folds.{flat_map-map}
use Rattle.token_record.specs.declared.tokens.Token.{Token}
use Rattle.token_record.specs.Meaning.{token_tree, token_trees}
use Rattle.token_record.specs.Texts.{TokenText}
use Rattle.token_record.specs.Written.{written, written_token}
use Rattle.token_record.specs.Writable.{IsWritable}
use Rattle.token_record.proofs.Once.{text_once}
use Rattle.token_record.proofs.Sound.{each_tree}
use Rattle.token_record.proofs.RoundTrip.{written_reads}
use Rattle.token_record.proofs.writing.write_tokens.Goals as goal

abbrev spaced_token : Token → List ℕ
spaced_token t = codes " " ++ written_token (token_tree t)

no_tokens : (xs : List Token) → length xs < 1 → [] ≡ written (token_trees xs)
no_tokens [] h = refl
no_tokens (x ∷ xs) h = absurd (omega (arith, h))

some_tokens : (xs : List Token) (x : Token) → 1 ≤ length xs → x ≡ get_or xs 0 x → written_token (token_tree x) ++ flat_map spaced_token (take (length xs - 1) (drop 1 xs)) ≡ written (token_trees xs)
some_tokens [] x h e = absurd (omega (arith, h))
some_tokens (y ∷ ys) x h e =
    ap (λ z. written_token (token_tree z) ++ flat_map spaced_token (take (length (y ∷ ys) - 1) ys)) e
    ∙ ap (λ z. written_token (token_tree y) ++ z) (ap (flat_map spaced_token) (take_all (length (y ∷ ys) - 1) ys (omega arith)) ∙ sym (flat_map-map (λ t. codes " " ++ written_token t) token_tree ys))

pub returns-in_default : goal.returns-in_default
returns-in_default c =
    let ts = token_trees c.args.tokens.now in
    let e = c.new-out.ensures.items ∙ no_tokens c.args.tokens.now c.in_default.len_below in
    let p = subst (λ z. TokenText ts z) (sym e) (written_reads ts (each_tree IsWritable c.args.tokens.now c.requires)) in
    record { written = e; reads = p; only = λ us q. text_once c.new-out.result.items ts us p q }

pub returns : goal.returns
returns c =
    let ts = token_trees c.args.tokens.now in
    let behind = flat_map spaced_token (take (length c.args.tokens.now - 1) (drop 1 c.args.tokens.now)) in
    let first = written_token (token_tree c.first-item.result) in
    let e =
    c.in_ok-write_others.ensures ∙ ap (λ z. z ++ behind) (c.in_ok-write_token.ensures ∙ ap (λ z. z ++ first) c.new-out.ensures.items)
    ∙ some_tokens c.args.tokens.now c.first-item.result c.in-len1-up.len_at_least c.first-item.is in
    let p = subst (λ z. TokenText ts z) (sym e) (written_reads ts (each_tree IsWritable c.args.tokens.now c.requires)) in
    record { written = e; reads = p; only = λ us q. text_once c.write_others.new.out.items ts us p q }
