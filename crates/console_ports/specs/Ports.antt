-- What stands at an address of the machine: memory, one of the three ports of the console, or nothing behind the fence.
use Rattle.std.specs.Prelude.{ℕ, ◌/◌, ◌*◌, Bool, if◌then◌else◌, ◌==◌, ◌&&◌, not, nat_le, nat_lt}
use Rattle.console_ports.specs.declared.ports.Access.{Access}
use Rattle.console_ports.specs.declared.ports.Access.TheVariants.{Data, Print, Key, Halt, Outside}

-- an address without bit 0
abbrev pub even : ℕ → ℕ
even address = address / 2 * 2

-- what a fetch or a store at an address reaches, where data space goes from data_start to 0x3fff;
-- a cell of data space is named by its place in memory
abbrev pub access_at : ℕ → Bool → ℕ → Access
access_at data_start is_store address =
    if nat_lt address 0x4000 && nat_le data_start (even address) then Data (address / 2)
    else if even address == 0x4000 && is_store then Print
    else if even address == 0x4002 && not is_store then Key
    else if even address == 0x4004 && is_store then Halt
    else Outside (even address)
