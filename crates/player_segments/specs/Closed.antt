-- Where m steps lead from the first start, and from the last, without walking: what the code computes (SCOPE 10.6, 10.8). `proofs/Steps.antt` proves that the
-- steps lead there.
-- Assumes nothing.
use Rattle.std.specs.Prelude.{List, ℕ, ◌-◌, ltb, length, get_or, Option, Some}
use Rattle.ground.specs.Cases.{pick}

-- m steps ahead from the first start; past the last start stands `past`, which is D, or nothing while the recording is still running (SCOPE 10.4, 10.8)
unfoldable pub start_ahead : List ℕ → Option ℕ → ℕ → Option ℕ
start_ahead starts past m = pick (ltb m (length starts)) (Some (get_or starts m 0)) past

-- m steps back from the last start; a step back from the first start leads to 0, which is where it is (SCOPE 10.3)
unfoldable pub start_back : List ℕ → ℕ → ℕ
start_back starts m = pick (ltb m (length starts)) (get_or starts (length starts - 1 - m) 0) 0
