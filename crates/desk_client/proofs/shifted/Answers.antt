-- `desk_client::shifted`: the seven behind the oldest, spelled out.
use mathlib.Core.Path.{ap}
use mathlib.Core.List.{List, [], ◌∷◌, ◌++◌}
use Rattle.ground.proofs.Sweep.{spelled}
use Rattle.desk_client.specs.Client.{blank_entry}
use Rattle.desk_client.specs.declared.Entry.{Entry}
use borrow.Author.Rules.{rules}
use Rattle.desk_client.proofs.shifted.Goals as goal

pub returns : goal.returns
returns c =
    let a = c.args in
    ap (λ (l : List Entry). l ++ (blank_entry ∷ [])) (spelled blank_entry a.rs 1 7 (search rules))
