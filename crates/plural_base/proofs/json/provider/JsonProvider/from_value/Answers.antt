use Rattle.serde_json.specs.View.{view}
use Rattle.plural_base.proofs.reading.RulesRead.{are_given, cardinal_read, ordinal_read, ranges_read}
use Rattle.plural_base.proofs.json.provider.JsonProvider.from_value.Goals as goal

pub returns-clause-cardinal : goal.returns-clause-cardinal
returns-clause-cardinal c =
    cardinal_read (are_given c.texts_give_one_answer.ensures) (view c.args.value.now) c.read_document.result c.read_document.ensures.answers

pub returns-clause-ordinal : goal.returns-clause-ordinal
returns-clause-ordinal c =
    ordinal_read (are_given c.texts_give_one_answer.ensures) (view c.args.value.now) c.read_document.result c.read_document.ensures.answers

pub returns-clause-ranges : goal.returns-clause-ranges
returns-clause-ranges c =
    ranges_read (are_given c.texts_give_one_answer.ensures) (view c.args.value.now) c.read_document.result c.read_document.ensures.answers
