mod HeldMessages
mod MessagesRefused
mod TextsPacked
mod PackingFaults
