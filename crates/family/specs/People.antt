-- Which process each of the story's people is.
use Rattle.std.specs.Prelude.{ℕ}
use Rattle.paging.specs.Ranges.{processes}
use Rattle.family.specs.declared.story.Person.{Person}
use Rattle.family.specs.declared.story.Person.TheVariants.{Parent, Child, Stranger}

-- the stranger has the first number that is no process of any table
abbrev pub number : Person → ℕ
number Parent = 0
number Child = 1
number Stranger = processes
