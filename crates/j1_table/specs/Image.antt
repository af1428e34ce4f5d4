-- What the machine starts with: code cells from cell 0 on, and bytes from the data start on. All other memory is 0.
use Rattle.std.specs.Prelude.{ℕ, ◌-◌, ◌/◌, ◌≤◌, List, length}
use Rattle.console_ports.specs.DataSpace.{IsDataStart}

pub record Content : Type 0 where
  pub cells : List ℕ
  pub bytes : List ℕ
  pub data_start : ℕ

-- code and data bytes have room in their parts of memory
pub record HasRoom (content : Content) : Type 0 where
  pub splits : IsDataStart content.data_start
  pub code : length content.cells ≤ content.data_start / 2
  pub space : length content.bytes ≤ 0x4000 - content.data_start
