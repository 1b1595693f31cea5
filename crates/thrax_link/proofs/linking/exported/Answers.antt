use Rattle.thrax_link.proofs.Fronts.{exports_more, exports_same}
use Rattle.thrax_link.proofs.linking.exported.Goals as goal

pub loop-entry-preserved-in-None-export_of : goal.loop-entry-preserved-in-None-export_of
loop-entry-preserved-in-None-export_of c = exports_same c.loop-entry.yielded c.in-Some.entry c.loop-entry.exports.items c.loop-entry.invariant c.in-None-export_of.ensures

pub loop-entry-preserved : goal.loop-entry-preserved
loop-entry-preserved c = exports_more c.loop-entry.yielded c.in-Some.entry c.loop-entry.exports.items c.push.new.self.items c.in-Some-export_of.export c.loop-entry.invariant c.in-Some-export_of.ensures c.in_ok-push-in-Some-export_of.ensures.items
