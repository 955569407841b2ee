-- A redirect as numbers.
use Rattle.std.specs.Prelude.{ℕ, length}
use Rattle.redis_routing.specs.RedirectText.{redirect_address}
use Rattle.redis_routing.specs.declared.info.Redirect.{Redirect}
use Rattle.redis_routing.specs.declared.info.Redirect.TheVariants.{Moved, Ask}
use Rattle.slotroute_c.specs.declared.redirects.RedirectNumbers.{RedirectNumbers}

-- 1: the slot has moved; 2: this command alone goes there, after ASKING
abbrev pub kind_of : Redirect → ℕ
kind_of (Moved address) = 1
kind_of (Ask address) = 2

abbrev pub redirect_numbers : ℕ → Redirect → RedirectNumbers
redirect_numbers slot redirect = record {
  kind = kind_of redirect;
  slot = slot;
  port = (redirect_address redirect).port;
  host_len = length (redirect_address redirect).host;
}
