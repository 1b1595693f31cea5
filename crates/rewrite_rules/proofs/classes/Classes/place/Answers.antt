use Rattle.std.proofs.Common.{◌+◌, subst, sym}
use Rattle.rewrite_rules.specs.Classes.{AreClassesTo}
use Rattle.rewrite_rules.proofs.Grouping.{classes_joined, classes_opened}
use Rattle.rewrite_rules.proofs.classes.Classes.place.Goals as goal

pub returns-in_ok-join-in-Some : goal.returns-in_ok-join-in-Some
returns-in_ok-join-in-Some c = record {
  classes =
      subst (AreClassesTo c.args.t.now (c.args.byte + 1)) (sym c.in_ok-join-in-Some.ensures.value)
      (classes_joined c.args.t.now c.args.byte c.in-Some.class c.args.self.now (c.requires.low, c.requires.high) c.in-Some.ensures.like.0 c.in-Some.ensures.like.1 c.requires.classes);
}

pub returns-in_ok-open-in-None : goal.returns-in_ok-open-in-None
returns-in_ok-open-in-None c = record {
  classes = subst (AreClassesTo c.args.t.now (c.args.byte + 1)) (sym c.in_ok-open-in-None.ensures.value) (classes_opened c.args.t.now c.args.byte c.args.self.now (c.requires.low, c.requires.high) c.requires.classes);
}
