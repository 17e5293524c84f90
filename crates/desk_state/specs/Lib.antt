-- The state of the whole: the services, the links of the four clients, and whose turn it was.
pub mod Desk
