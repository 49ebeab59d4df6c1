use Rattle.sharing_tests.proofs.shortages.answers.Given as goal

abbrev pub ghosts-by_counted_levels : goal.ghosts-by_counted_levels
ghosts-by_counted_levels g a = record { name = a.blank.name; parts = a.blank.parts }
