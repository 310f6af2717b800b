use Rattle.std.proofs.Common.{◌≡◌, ◌∙◌, rules, option_map}
use Rattle.std.specs.Str.Parse.{without_leading_plus}
use Rattle.hir_collector_rules.specs.HirItemTree.Attributes.{input_view}
use Rattle.hir_collector_rules.specs.CrateTop.{limit_in, number_in}
use Rattle.hir_collector_start.proofs.Digits.{number_parsed}
use Rattle.hir_collector_start.proofs.crate_top.limit_in.Goals as goal

pub returns-in-Some-Literal : goal.returns-in-Some-Literal
returns-in-Some-Literal c =
    let same : number_in (without_leading_plus c.as_str.result.now) ≡ limit_in (option_map input_view c.args.input.now) = search rules in
    record { value = c.ok.ensures.value ∙ number_parsed c.as_str.result.now c.parse.result c.parse.ensures.value.0 ∙ same }
