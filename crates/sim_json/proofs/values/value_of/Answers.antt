-- Bytes are a text, or they have no value.
use Rattle.{serde_json.specs.{Data.Data, Read.read, View.view}, sim_json.proofs.Texts.{no_value, utf8_holds, utf8_value}}
use Rattle.std.{proofs.{Common.{ap, IfOk, Option, subst, sym, ◌∙◌, ◌≡◌}, lemmas.Bool.false≢true}, specs.Prelude.option_map}
use Rattle.sim_json.proofs.values.value_of.Goals as goal

pub returns-in-Ok-clause-value : goal.returns-in-Ok-clause-value
returns-in-Ok-clause-value c =
    let text = c.in-Ok.ensures.cases in
    subst (λ (o : Option Data). IfOk c.value_in.result (λ found. option_map view found ≡ o)) (ap read text.0 ∙ sym (utf8_value c.args.bytes.now text.1))
    c.value_in.ensures.value

pub returns-in-Ok-clause-no_text : goal.returns-in-Ok-clause-no_text
returns-in-Ok-clause-no_text c = λ no. absurd (false≢true (sym no ∙ utf8_holds c.args.bytes.now c.in-Ok.ensures.cases.1))

pub returns-in-Err-clause-value : goal.returns-in-Err-clause-value
returns-in-Err-clause-value c = sym (no_value c.args.bytes.now (λ utf8. absurd (c.in-Err.ensures.cases.0 utf8)))
