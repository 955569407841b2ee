-- What is printed of a send that was not answered.
use Rattle.std.specs.Prelude.{ℕ, List, ◌++◌, codes}
use Rattle.resp_core.specs.ErrorParts.{error_text}
use Rattle.cluster_slots.specs.Address.{display_text}
use Rattle.redis_routing.specs.declared.info.Redirect.{Redirect}
use Rattle.redis_routing.specs.RedirectText.{redirect_address, redirect_word}
use Rattle.redis_cluster.specs.declared.nodes.SendError.{SendError}
use Rattle.redis_cluster.specs.declared.nodes.SendError.TheVariants.{Refused, Redirected, Lost, Memory}

-- the word of the redirect, and the address that it names
abbrev pub redirect_text : Redirect → List ℕ
redirect_text redirect = redirect_word redirect ++ display_text (redirect_address redirect)

abbrev pub send_error_text : SendError → List ℕ
send_error_text (Refused error) = codes "node refused: " ++ error_text error
send_error_text (Redirected redirect) = codes "node redirected: " ++ redirect_text redirect
send_error_text (Lost error) = codes "reply lost: " ++ error_text error
send_error_text Memory = codes "out of memory"
