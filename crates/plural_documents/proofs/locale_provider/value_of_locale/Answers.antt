use Rattle.plural_documents.proofs.LocaleServes.{serves_by}
use Rattle.plural_documents.proofs.locale_provider.value_of_locale.Goals as goal

pub returns : goal.returns
returns c =
    serves_by c.outline.result c.in_ok-is_faultless.field-0 c.args.locale c.args.text.now c.sieve_for-sieve.result c.sieve_for-sieve.ensures
    c.in_ok-is_faultless.ensures c.outline.ensures
