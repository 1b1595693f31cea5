use Rattle.std.proofs.Common.{◌∙◌, ℕ, List, Option, Vec, ap, inl, refl, subst}
use Rattle.std.specs.declared.alloc.Global.{Global}
use Rattle.token_record.specs.Fields.{fields_of}
use Rattle.field_orders.specs.Orders.{Orders}
use Rattle.normaliser.specs.Loads.{verbaliser_of}
use Rattle.normaliser.specs.Parts.{IsOutput, with_words}
use Rattle.normaliser.proofs.Verbalised.{put_class, put_nothing, put_own}
use Rattle.normaliser.proofs.Searchings.{on_err, searched_none}
use Rattle.normaliser.proofs.normalisers.Normaliser.put_words.Goals as goal

pub returns-in_ok-join-in-Spoken-clause-put : goal.returns-in_ok-join-in-Spoken-clause-put
returns-in_ok-join-in-Spoken-clause-put c =
    put_own (verbaliser_of c.args.self.now) c.args.token.now c.args.words.now.items c.join.new.words.items c.in-Spoken.own c.in-Spoken.is (c.in_ok-join-in-Spoken.ensures ∙ ap (λ (own : List ℕ). with_words c.args.words.now.items own) c.deref.ensures.value)

pub returns-in-Silent-clause-put : goal.returns-in-Silent-clause-put
returns-in-Silent-clause-put c = put_nothing (verbaliser_of c.args.self.now) c.args.token.now c.args.words.now.items c.args.words.now.items c.in-Silent.is refl

pub returns-in_ok-join-in-Some-clause-put : goal.returns-in_ok-join-in-Some-clause-put
returns-in_ok-join-in-Some-clause-put c =
    let r = c.in-Class.record in
    put_class (verbaliser_of c.args.self.now) c.args.token.now c.args.words.now.items c.join-in-Some.new.words.items r c.in-Some.own c.in-Class.is
    (subst (λ (o : Option (Vec ℕ Global)). IsOutput (verbaliser_of c.args.self.now) (Orders r.class r.keep (fields_of r.fields.items)) o) c.in-Some.is c.in_ok-own-in-Class.ensures.output)
    (c.in_ok-join-in-Some.ensures ∙ ap (λ (own : List ℕ). with_words c.args.words.now.items own) c.deref-in-Some.ensures.value)

pub returns-in_ok-join-in-Spoken-clause-searched : goal.returns-in_ok-join-in-Spoken-clause-searched
returns-in_ok-join-in-Spoken-clause-searched c = searched_none c.args.self.now.shared c.args.caller.now

pub returns-in-Silent-clause-searched : goal.returns-in-Silent-clause-searched
returns-in-Silent-clause-searched c = searched_none c.args.self.now.shared c.args.caller.now

pub returns-in_err-join-in-Spoken-clause-stopped : goal.returns-in_err-join-in-Spoken-clause-stopped
returns-in_err-join-in-Spoken-clause-stopped c = on_err c.from_residual.result _ (inl (searched_none c.args.self.now.shared c.args.caller.now))
