use Rattle.std.proofs.Common.{◌≡◌, ◌<◌, ◌+◌, ◌++◌, ◌∷◌, [], ℕ, List, length, subst, sym, ap, ◌∙◌, length-append}
use Rattle.least_path.specs.declared.outputs.Letter.{Letter}
use Rattle.least_path.specs.Texts.{texts, text_of, IsMade, Grows}
use Rattle.least_path.proofs.Letters.{made_push, push_number, push_text, push_grows}
use Rattle.least_path.proofs.outputs.add.Goals as goal

-- a push's length, by its items
number_is : (old new : List Letter) (l : Letter) (n m : ℕ) → new ≡ old ++ l ∷ [] → n ≡ m → m ≡ length new → n ≡ length old + 1
number_is old new l n m is e f = e ∙ f ∙ ap length is ∙ length-append old (l ∷ [])

pub returns-clause-made : goal.returns-clause-made
returns-clause-made c = subst IsMade (sym c.in_ok-push.ensures.items) (made_push c.args.letters.now.items (record { before = c.args.at; label = c.args.label; longer = 0; beside = c.args.beside }) c.requires.made c.requires.at)

pub returns-clause-number : goal.returns-clause-number
returns-clause-number c =
    let n = number_is c.args.letters.now.items c.push.new.self.items (record { before = c.args.at; label = c.args.label; longer = 0; beside = c.args.beside }) c.len.result c.push.new.self.len c.in_ok-push.ensures.items c.len.ensures c.push.new.self.ok.0 in
    subst (λ k. k < length (texts c.push.new.self.items)) (sym n) (subst (λ xs. length c.args.letters.now.items + 1 < length (texts xs)) (sym c.in_ok-push.ensures.items) (push_number c.args.letters.now.items (record { before = c.args.at; label = c.args.label; longer = 0; beside = c.args.beside })))

pub returns-clause-text : goal.returns-clause-text
returns-clause-text c =
    let n = number_is c.args.letters.now.items c.push.new.self.items (record { before = c.args.at; label = c.args.label; longer = 0; beside = c.args.beside }) c.len.result c.push.new.self.len c.in_ok-push.ensures.items c.len.ensures c.push.new.self.ok.0 in
    ap (text_of (texts c.push.new.self.items)) n ∙ ap (λ xs. text_of (texts xs) (length c.args.letters.now.items + 1)) c.in_ok-push.ensures.items ∙ push_text c.args.letters.now.items (record { before = c.args.at; label = c.args.label; longer = 0; beside = c.args.beside })

pub returns-clause-grows : goal.returns-clause-grows
returns-clause-grows c = subst (λ xs. Grows (texts c.args.letters.now.items) (texts xs)) (sym c.in_ok-push.ensures.items) (push_grows c.args.letters.now.items (record { before = c.args.at; label = c.args.label; longer = 0; beside = c.args.beside }))
