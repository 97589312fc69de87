-- The join messages that are built, whole, from LoRaWAN 1.0 sections 6.2.4 and 6.2.5 (docs/RULES.md, Building).
-- Assumes nothing.
use Rattle.std.specs.Prelude.{List, ◌++◌, ℕ}
use Rattle.frame_build.specs.JoinBuilding.{join_accept_body, join_request_body}
use Rattle.frame_security.specs.JoinAcceptCipher.{accept_encrypted}
use Rattle.frame_security.specs.Security.{join_mic}
use Rattle.frame_build.specs.declared.creator.join.JoinAcceptParts.{JoinAcceptParts}
use Rattle.frame_build.specs.declared.creator.join.JoinRequestParts.{JoinRequestParts}

-- a message with its MIC, of AppKey
unfoldable pub signed : List ℕ → List ℕ → List ℕ
signed key msg = msg ++ join_mic key msg

abbrev pub join_request_of : List ℕ → JoinRequestParts → List ℕ
join_request_of key j = signed key (join_request_body j)

-- the MIC is over the clear bytes, and is encrypted with them
abbrev pub join_accept_of : List ℕ → JoinAcceptParts → List ℕ → List ℕ
join_accept_of key j channels = accept_encrypted key (signed key (join_accept_body j channels))
