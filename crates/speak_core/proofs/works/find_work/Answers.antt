use Rattle.std.proofs.Common.{ap}
use Rattle.speak_words.specs.Asked.{classify, job_of, sample, speak}
use Rattle.speak_core.specs.Works.{InputBy, SampledBy}
use Rattle.speak_core.proofs.Doing.{input_classifies, input_speaks, job_finds, sample_sampled, where_known}
use Rattle.speak_core.proofs.works.find_work.Goals as goal

pub returns-in-Speak-clause-finds : goal.returns-in-Speak-clause-finds
returns-in-Speak-clause-finds g c =
    job_finds (g.H.Shelf.files c.args.shelf.now) InputBy (job_of c.args.job.now) (speak c.in-Speak.setup.now) c.find_lines.result (ap job_of c.in-Speak.is) (input_speaks c.in-Speak.setup.now) c.find_lines.ensures.finds

pub returns-in-Classify-clause-finds : goal.returns-in-Classify-clause-finds
returns-in-Classify-clause-finds g c =
    job_finds (g.H.Shelf.files c.args.shelf.now) InputBy (job_of c.args.job.now) (classify c.in-Classify.setup.now) c.find_lines-in-Classify.result (ap job_of c.in-Classify.is) (input_classifies c.in-Classify.setup.now) c.find_lines-in-Classify.ensures.finds

pub returns-in-Sample-clause-finds : goal.returns-in-Sample-clause-finds
returns-in-Sample-clause-finds g c =
    job_finds (g.H.Shelf.files c.args.shelf.now) (SampledBy c.in-Sample.count c.in-Sample.start) (job_of c.args.job.now) (sample c.in-Sample.count c.in-Sample.start) c.find_sample.result (ap job_of c.in-Sample.is) (sample_sampled c.in-Sample.count c.in-Sample.start)
    (where_known (g.H.Shelf.files c.args.shelf.now) _ (λ files. c.find_sample.ensures.finds))

pub returns-in-Check-clause-ready : goal.returns-in-Check-clause-ready
returns-in-Check-clause-ready g c = c.find_sizes.ensures.ready c.args.settings
