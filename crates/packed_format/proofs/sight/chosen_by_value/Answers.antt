use Rattle.packed_format.proofs.sight.chosen_by_value.Goals as goal

pub returns-in_ok-at-in-Plural-Number-clause-branch : goal.returns-in_ok-at-in-Plural-Number-clause-branch
returns-in_ok-at-in-Plural-Number-clause-branch g c name =
    rw (c.in-Plural-Number.is-0, c.in-Plural-Number.is-1, c.as_bytes.ensures.value) (c.in_ok-at-in-Plural-Number.ensures.branch name)

pub returns-in_ok-at-in-Ordinal-Number-clause-branch : goal.returns-in_ok-at-in-Ordinal-Number-clause-branch
returns-in_ok-at-in-Ordinal-Number-clause-branch g c name =
    rw (c.in-Ordinal-Number.is-0, c.in-Ordinal-Number.is-1, c.as_bytes-in-Ordinal-Number.ensures.value) (c.in_ok-at-in-Ordinal-Number.ensures.branch name)
