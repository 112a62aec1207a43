-- What is kept of the devices stands for a history.
use Rattle.std.specs.Prelude.{◌≡◌, ℕ, List}
use Rattle.reis_strict.specs.declared.act.Kind.{Kind}
use Rattle.reis_strict.specs.Devices.{Devices, state_in, is_down_in}
use Rattle.reis_strict.specs.History.{Told, state_of, is_down}

-- of each device it says the state, and what is down
pub record StandsFor (devices : Devices) (history : List Told) : Type 0 where
  pub states : (device : ℕ) → state_in devices device ≡ state_of device history
  pub downs : (device : ℕ) (kind : Kind) (code : ℕ) → is_down_in devices device kind code ≡ is_down device kind code history
