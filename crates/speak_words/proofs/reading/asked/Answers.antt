use Rattle.std.proofs.Common.{◌≡◌, ◌∙◌, ap, List, Option, codes, rules, unwrap_or}
use Rattle.std.specs.Option.{option_map, option_map_or}
use Rattle.clap.specs.Words.{Row, Text, first_of, found_of, one_of, rows_of}
use Rattle.clap.proofs.WalkLemmas.{first_value-rows}
use Rattle.speak_words.specs.Asked.{job_of, number}
use Rattle.speak_words.proofs.Getters.{same_job, unwrap_or-now}
use Rattle.speak_words.proofs.reading.asked.Goals as goal

pub returns-clause-job : goal.returns-clause-job
returns-clause-job c =
    let found = found_of c.args.matches.now in
    let rows : List Row = rows_of found in
    let name : option_map (λ s. s.now) c.get_str.result ≡ first_of (codes "mode") rows = c.get_str.ensures ∙ first_value-rows found (codes "mode") in
    let setup : option_map (λ s. s.now) c.get_str-2.result ≡ first_of (codes "setup") rows = c.get_str-2.ensures ∙ first_value-rows found (codes "setup") in
    let mode : c.unwrap_or-name.result.now ≡ unwrap_or (first_of (codes "mode") rows) (codes "speak") =
    ap (λ s. s.now) c.unwrap_or-name.ensures ∙ unwrap_or-now c.get_str.result _ ∙ ap (λ (o : Option Text). unwrap_or o (codes "speak")) name in
    let count : c.value-count.result ≡ option_map_or number (one_of (codes "count") rows) 1000 = c.value-count.ensures.value in
    let start : c.value-start.result ≡ option_map_or number (one_of (codes "start") rows) 1 = c.value-start.ensures.value in
    let same : option_map (λ a. job_of a.mode) c.map.result ≡ option_map job_of c.mode.result = search rules in
    same ∙ c.mode.ensures.job ∙ same_job _ _ _ _ _ _ _ _ mode setup count start
