use Rattle.form_commands.proofs.run.categories_of.Goals as goal

pub returns-in_ok-numbers_text-in-Ok : goal.returns-in_ok-numbers_text-in-Ok
returns-in_ok-numbers_text-in-Ok c =
    (c.in-Ok.language, rw c.in-Ok.is at c.in_ok-language.ensures, c.in_ok-numbers_text-in-Ok.ensures)
