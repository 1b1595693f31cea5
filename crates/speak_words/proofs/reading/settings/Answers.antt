use Rattle.std.proofs.Common.{◌≡◌, ◌∙◌, ap, List, Option, codes, unwrap_or}
use Rattle.std.specs.Option.{option_map, option_map_or}
use Rattle.std.specs.Str.{bytes_eq}
use Rattle.clap.specs.Words.{Row, Text, first_of, found_of, one_of, rows_of}
use Rattle.clap.proofs.WalkLemmas.{first_value-rows}
use Rattle.speak_words.specs.Asked.{number}
use Rattle.speak_words.proofs.Getters.{same_settings, unwrap_or-now}
use Rattle.speak_words.proofs.reading.settings.Goals as goal

pub returns-clause-settings : goal.returns-clause-settings
returns-clause-settings c =
    let found = found_of c.args.matches.now in
    let rows : List Row = rows_of found in
    let given : option_map (λ s. s.now) c.get_str.result ≡ first_of (codes "report") rows = c.get_str.ensures ∙ first_value-rows found (codes "report") in
    let value : c.unwrap_or.result.now ≡ unwrap_or (first_of (codes "report") rows) (codes "false") =
    ap (λ s. s.now) c.unwrap_or.ensures ∙ unwrap_or-now c.get_str.result _ ∙ ap (λ (o : Option Text). unwrap_or o (codes "false")) given in
    let places : c.value-places.result ≡ option_map_or number (one_of (codes "places") rows) 256 = c.value-places.ensures.value in
    let jobs : c.value-jobs.result ≡ option_map_or number (one_of (codes "jobs") rows) 1 = c.value-jobs.ensures.value in
    let sweep : c.value-sweep.result ≡ option_map_or number (one_of (codes "sweep") rows) 0 = c.value-sweep.ensures.value in
    same_settings _ _ _ _ _ _ _ _ places jobs sweep (c.eq-report.ensures ∙ ap (λ (t : Text). bytes_eq t (codes "true")) value)
